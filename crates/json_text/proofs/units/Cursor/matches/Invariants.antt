-- `json_text::units::Cursor::matches` meets its contract. The loop's invariant: what is left of the word, from here, answers for the whole word.
-- Assumes nothing.
use mathlib.Core.Path.{◌≡◌}
use lib.ListN.{drop}
use Rattle.json_text.specs.Units.{matches, left}
use Rattle.json_text.proofs.units.Cursor.matches.Given as goal

abbrev pub invariant-loop-b : goal.invariant-loop-b
invariant-loop-b l =
    matches l.whole l.word (left l.text l.fn.self) ≡ matches l.whole (drop l.b-index l.word) (left l.text l.cursor)
