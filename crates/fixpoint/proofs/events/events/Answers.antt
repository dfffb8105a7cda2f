use Prim.Native.Nat.{ℕ, ◌+◌}
use mathlib.Core.Path.{◌≡◌}
use mathlib.Core.Logic.{◌⊎◌, inr, ⊎_elim}
use mathlib.Core.List.{List}
use native.Mathlib.Omega.{arith}
use Rattle.fixpoint.specs.Grown.{AllSpent, Exhausted}
use Rattle.fixpoint.proofs.Grows.{grown-then, tried-first, tried-after}
use Rattle.fixpoint.proofs.Tried.{few-of}
use Rattle.fixpoint.proofs.events.events.Goals as goal

-- after one more list, the choices of the first list were fired
first-fired : (ws links : List ℕ) (size e : ℕ) (first list old est new : List ℕ) (m n : ℕ)
    → ((e ≡ 0) × (m ≡ 0) × (est ≡ old) × (list ≡ first)) ⊎ Exhausted ws links size first old est m → Exhausted ws links size list est new n
    → Exhausted ws links size first old new (m + n)
first-fired ws links size e first list old est new m n i d ρ =
    ⊎_elim (λ b. tried-first (AllSpent ws links size) b.1 b.2 b.3 (d ρ)) (λ t. tried-after (t ρ) (d ρ).grown) i

pub drain-added-requires : goal.drain-added-requires
drain-added-requires c = (c.requires.0, (c.loop-event.invariant.0 0).sound.well c.requires.1)

pub overflow_add-added : goal.overflow_add-added
overflow_add-added c = omega (arith, few-of c.requires.0 c.requires.1 (grown-then (c.loop-event.invariant.0 0) (c.drain-added.ensures 0).grown))

pub loop-event-preserved : goal.loop-event-preserved
loop-event-preserved c =
    let d = c.drain-added in
    let i = c.loop-event.invariant in
    ((λ ρ. grown-then (i.0 ρ) (d.ensures ρ).grown), inr (first-fired _ _ _ _ _ _ _ _ _ _ _ i.1 d.ensures))

pub returns-in_default : goal.returns-in_default
returns-in_default c = first-fired _ _ _ _ _ _ _ _ _ _ _ c.loop-event.invariant.1 c.drain-added.ensures

pub returns-then-room-added : goal.returns-then-room-added
returns-then-room-added c ρ = ⊎_elim (λ b. absurd (omega (arith, b, c.if-room-added.true))) (λ t. t ρ) c.loop-event.invariant.1

pub returns : goal.returns
returns c ρ = ⊎_elim (λ b. absurd (omega (arith, b, c.loop-event-test.false))) (λ t. t ρ) c.loop-event.invariant.1
