-- `fixpoint::events::drain` meets its contract. The loop's invariant: what was done so far is sound, and where it added nothing, the choices fired
-- so far have nothing to add. Assumes nothing.
use Prim.Native.Nat.{ℕ, ◌+◌, ◌<◌}
use lib.ListN.{get_or}
use Rattle.table.specs.Code.{code}
use Rattle.fixpoint.specs.Grown.{Tried, Spent}
use Rattle.fixpoint.proofs.events.drain.Given as goal

abbrev pub invariant-loop-i : goal.invariant-loop-i
invariant-loop-i l =
    (ρ : ℕ) → Tried (code l.words) ρ (λ xs. (k : ℕ) → k < l.i → Spent l.words l.links l.l.size (get_or l.list (k + 1) 0) xs) l.initial.est l.est l.added
