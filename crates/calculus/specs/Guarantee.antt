-- What demand 3 speaks of: the permissions that are exercised in a run, and sets that contain them in every run.
use Rattle.std.specs.Prelude.{ℕ, T}
use mathlib.Core.List.{List, Memᴰ}
use Rattle.permset.specs.Sets.{member}
use Rattle.table.specs.Code.{Code}
use Rattle.calculus.specs.Run.{Event, run, exercised}

-- permission x is exercised somewhere in the list of events, where the opponent holds ρ
abbrev pub Exercised : Code → ℕ → List Event → ℕ → Type 0
Exercised c ρ events x = (r : ℕ) × Memᴰ r (exercised (run c ρ events)) × T (member r x)

-- whatever the list of events, every permission that is exercised is in the set s
abbrev pub Covers : Code → ℕ → ℕ → Type 0
Covers c ρ s = (events : List Event) (x : ℕ) → Exercised c ρ events x → T (member s x)
