-- `worklist::plan::leave_all` meets its contract. The measure is the word itself: the one around it is lower. Assumes nothing.
use Prim.Native.Nat.{◌<◌}
use lib.ListN.{length}
use Rattle.worklist.proofs.plan.leave_all.Given as goal

abbrev pub invariant-loop-q : goal.invariant-loop-q
invariant-loop-q l = l.q < length l.words

abbrev pub decreases-loop-q : goal.decreases-loop-q
decreases-loop-q l = l.q
