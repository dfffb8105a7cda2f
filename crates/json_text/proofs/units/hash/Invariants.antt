-- `json_text::units::hash` meets its contract. The loop's invariant: the number so far, spread over what is left, is the number of the whole.
-- Assumes nothing.
use mathlib.Core.Path.{◌≡◌}
use Prim.Native.Nat.{◌<◌, ◌^◌}
use lib.ListN.{length, drop}
use Rattle.json_text.specs.Strings.{units}
use Rattle.json_text.specs.Units.{spread, left}
use Rattle.json_text.proofs.units.hash.Given as goal

abbrev pub invariant-loop-next : goal.invariant-loop-next
invariant-loop-next l =
    (spread 0 (units (drop l.at l.text)) ≡ spread l.number (left l.text l.cursor)) × (l.number < 2 ^ 18)

abbrev pub decreases-loop-next : goal.decreases-loop-next
decreases-loop-next l = length (left l.text l.cursor)
