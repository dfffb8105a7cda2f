-- `worklist::things::follow_names` meets its contract. The measure is what is left of the table. Assumes nothing.
use Prim.Native.Nat.{◌-◌}
use Rattle.worklist.proofs.things.follow_names.Given as goal

abbrev pub decreases-loop-b : goal.decreases-loop-b
decreases-loop-b l = 2048 - l.b
