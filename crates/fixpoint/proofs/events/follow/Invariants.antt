-- `fixpoint::events::follow` meets its contract. The loop's invariant: the entries so far are sound and counted. Assumes nothing.
use Prim.Native.Nat.{◌-◌}
use Rattle.table.specs.Code.{code}
use Rattle.fixpoint.specs.Grown.{Grown}
use Rattle.fixpoint.proofs.events.follow.Given as goal

abbrev pub invariant-loop-p : goal.invariant-loop-p
invariant-loop-p l = Grown (code l.words) l.rho.bits l.initial.est l.est l.added

abbrev pub decreases-loop-p : goal.decreases-loop-p
decreases-loop-p l = l.size - l.p
