-- `worklist::events::uses` meets its contract. The measure is the use itself: the one before it is lower. Assumes nothing.
use Prim.Native.Nat.{◌<◌}
use Rattle.worklist.proofs.events.uses.Given as goal

abbrev pub invariant-loop-v : goal.invariant-loop-v
invariant-loop-v l = l.v < 1024

abbrev pub decreases-loop-v : goal.decreases-loop-v
decreases-loop-v l = l.v
