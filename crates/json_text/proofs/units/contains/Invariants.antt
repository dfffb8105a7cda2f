-- `json_text::units::contains` meets its contract. The loop's invariant: the word is among the units from here exactly if it is among those from the start.
-- Assumes nothing.
use mathlib.Core.Path.{◌≡◌}
use lib.ListN.{length, drop}
use Rattle.json_text.specs.Strings.{units}
use Rattle.json_text.specs.Units.{contains, left}
use Rattle.json_text.proofs.units.contains.Given as goal

abbrev pub invariant-loop-cursor : goal.invariant-loop-cursor
invariant-loop-cursor l = contains l.word (units (drop l.at l.text)) ≡ contains l.word (left l.text l.cursor)

abbrev pub decreases-loop-cursor : goal.decreases-loop-cursor
decreases-loop-cursor l = length (left l.text l.cursor)
