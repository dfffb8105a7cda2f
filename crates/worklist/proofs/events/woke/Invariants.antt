-- `worklist::events::woke` meets its contract. The measure is what is left of the term. Assumes nothing.
use Prim.Native.Nat.{◌-◌}
use Rattle.worklist.proofs.events.woke.Given as goal

abbrev pub decreases-loop-p : goal.decreases-loop-p
decreases-loop-p l = l.e - l.p
