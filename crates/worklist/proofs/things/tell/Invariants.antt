-- `worklist::things::tell` meets its contract. The measure is what is left of the followers. Assumes nothing.
use Prim.Native.Nat.{◌-◌}
use Rattle.worklist.proofs.things.tell.Given as goal

abbrev pub decreases-loop-p : goal.decreases-loop-p
decreases-loop-p l = 1024 - l.from
