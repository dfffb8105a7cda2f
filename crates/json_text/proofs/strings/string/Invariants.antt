-- `json_text::strings::string` meets its contract. The loop's invariant: where the string ends from here is where it ends from the start.
-- Assumes nothing.
use mathlib.Core.Path.{◌≡◌}
use lib.ListN.{length, drop}
use Rattle.json_text.specs.Strings.{string}
use Rattle.json_text.proofs.strings.string.Given as goal

abbrev pub invariant-loop-q : goal.invariant-loop-q
invariant-loop-q l = string (drop l.at l.text) ≡ string (drop l.p l.text)

abbrev pub decreases-loop-q : goal.decreases-loop-q
decreases-loop-q l = length (drop l.p l.text)
