-- `json_text::values::literal` meets its contract. The loop's invariant: what is left of the word, from here, is what the word is from the start.
-- Assumes nothing.
use mathlib.Core.Path.{◌≡◌}
use lib.ListN.{drop}
use Rattle.json_text.specs.Values.{literal}
use Rattle.json_text.proofs.values.literal.Given as goal

abbrev pub invariant-loop-b : goal.invariant-loop-b
invariant-loop-b l = literal l.word (drop l.at l.text) ≡ literal (drop l.b-index l.word) (drop l.p l.text)
