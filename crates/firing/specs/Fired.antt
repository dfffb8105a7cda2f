-- What it is that code did what a rule does to the words of an estimate, and counted what that added.
use Rattle.std.specs.Prelude.{ℕ, ◌+◌, ◌≡◌, List}
use Rattle.table.specs.Code.{Code}
use Rattle.calculus.specs.Constraint.{Rule}
use Rattle.calculus.specs.Estimate.{fire, facts}
use Rattle.rows.specs.declared.layout.Layout.{Layout}
use Rattle.rows.specs.Laid.{LaidOut}

-- for one code
pub record Fired (c : Code) (k : Rule) (old new : List ℕ) (added : ℕ) : Type 0 where
  pub words : new ≡ fire c k old
  pub count : facts new ≡ facts old + added

-- for every code of the layout of which h holds
pub record FiredFor (l : Layout) (h : Code → Type 0) (k : Code → Rule) (old new : List ℕ) (added : ℕ) : Type 0 where
  pub words : (c : Code) → LaidOut c l → h c → new ≡ fire c (k c) old
  pub count : facts new ≡ facts old + added

-- for every code of the layout
abbrev pub FiredIn : Layout → Rule → (old new : List ℕ) → ℕ → Type 0
FiredIn l k old new n = FiredFor l (λ c. Unit {0}) (λ c. k) old new n
