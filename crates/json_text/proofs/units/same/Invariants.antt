-- `json_text::units::same` meets its contract. The loop's invariant: what is left of both answers for both.
-- Assumes nothing.
use mathlib.Core.Path.{◌≡◌}
use mathlib.Core.Bool.{true}
use lib.ListN.{length, drop}
use Rattle.json_text.specs.Strings.{units}
use Rattle.json_text.specs.Units.{matches, left}
use Rattle.json_text.proofs.units.same.Given as goal

abbrev pub invariant-loop-next : goal.invariant-loop-next
invariant-loop-next l =
    matches true (units (drop l.at l.text)) (units (drop l.other l.text)) ≡ matches true (left l.text l.one) (left l.text l.two)

abbrev pub decreases-loop-next : goal.decreases-loop-next
decreases-loop-next l = length (left l.text l.one)
