-- `fixpoint::closing::settle` meets its contract. The loop's invariant: what was sound and counted before it still is. A sweep where a rule is
-- broken adds a fact, so that less is left to add. Assumes nothing.
use Prim.Native.Nat.{ℕ, ◌-◌, ◌*◌}
use mathlib.Core.List.{List}
use lib.ListN.{length}
use Rattle.table.specs.Code.{code}
use Rattle.calculus.specs.Estimate.{facts}
use Rattle.fixpoint.specs.Grown.{Grown}
use Rattle.fixpoint.proofs.closing.settle.Given as goal

abbrev pub invariant-loop-added : goal.invariant-loop-added
invariant-loop-added l =
    (old : List ℕ) → Grown (code l.words) l.rho.bits old l.initial.est l.initial.added → Grown (code l.words) l.rho.bits old l.est l.added

abbrev pub decreases-loop-added : goal.decreases-loop-added
decreases-loop-added l = 32 * length l.est - facts l.est
