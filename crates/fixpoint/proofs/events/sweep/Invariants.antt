-- `fixpoint::events::sweep` meets its contract. The loop's invariant: what was done so far is sound, and where it added nothing, the words so far
-- have nothing to add. Assumes nothing.
use Prim.Native.Nat.{ℕ, ◌<◌}
use Rattle.table.specs.Code.{code}
use Rattle.fixpoint.specs.Grown.{Tried}
use Rattle.fixpoint.proofs.Tried.{Quiet}
use Rattle.fixpoint.proofs.events.sweep.Given as goal

abbrev pub invariant-loop-i : goal.invariant-loop-i
invariant-loop-i l =
    Tried (code l.words) l.rho.bits (λ xs. (j : ℕ) → j < l.i → Quiet l.words l.links l.rho.bits j xs) l.initial.est l.est l.added
