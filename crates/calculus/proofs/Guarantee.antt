-- Demand 3: nobody who holds ρ alone can cause a handler to exercise a permission outside the leak.
use Prim.Native.Nat.{ℕ}
use mathlib.Core.List.{List, Memᴰ}
use lib.Dec.{T}
use Rattle.permset.specs.Sets.{member, within}
use Rattle.permset.proofs.Laws.{member-within}
use Rattle.table.specs.Code.{Code, Linked}
use Rattle.calculus.specs.Constraint.{Sets}
use Rattle.calculus.specs.Rules.{Estimate, leak_of}
use Rattle.calculus.specs.Run.{Event, run, exercised}
use Rattle.calculus.specs.Guarantee.{Exercised, Covers}
pub mod Relation
pub mod Values
pub mod Operations
pub mod Elements
pub mod Messages
pub mod Records
pub mod Words
pub mod Steps
pub mod Events
use Events.{run-good, exercised-good}

-- For every linked code, every estimate that obeys the rules and every list of events: one claim about the whole list.
pub guarantee : (c : Code) → Linked c → (ρ : ℕ) (e : Sets) → Estimate c ρ e
    → (events : List Event) (x : ℕ) → Exercised c ρ events x → leak_of c ρ e x
guarantee c k ρ e est events x (r, m, t) = exercised-good c k ρ e est (run c ρ events) (run-good c k ρ e est events) r x m t

-- A set with every permission of the leak covers every run.
pub covers : (c : Code) → Linked c → (ρ : ℕ) (e : Sets) → Estimate c ρ e
    → (s : ℕ) → ((x : ℕ) → leak_of c ρ e x → T (member s x)) → Covers c ρ s
covers c k ρ e est s f events x m = f x (guarantee c k ρ e est events x m)

-- Every set that is exercised is within a set that covers every run.
pub covers-within : (c : Code) (ρ s : ℕ) → Covers c ρ s → (events : List Event) (r : ℕ) → Memᴰ r (exercised (run c ρ events)) → T (within r s)
covers-within c ρ s f events r m = member-within r s (λ x t. f events x (r, m, t))
