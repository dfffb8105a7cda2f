-- `fixpoint::events::events` meets its contract. The loop's invariant: it is at its start, or the choices of the first list were fired. Assumes nothing.
use Prim.Native.Nat.{ℕ}
use mathlib.Core.Path.{◌≡◌}
use mathlib.Core.Logic.{◌⊎◌}
use Rattle.table.specs.Code.{code}
use Rattle.fixpoint.specs.Grown.{Grown, Exhausted}
use Rattle.fixpoint.proofs.events.events.Given as goal

abbrev pub invariant-loop-event : goal.invariant-loop-event
invariant-loop-event l =
    ((ρ : ℕ) → Grown (code l.words) ρ l.initial.est l.est l.added)
    × (((l.event ≡ 0) × (l.added ≡ 0) × (l.est ≡ l.initial.est) × (l.out ≡ l.initial.out)) ⊎ Exhausted l.words l.links l.l.size l.initial.out l.initial.est l.est l.added)
