-- The lowest word that does not do what is asked of it, found test by test: a number that each test may lower.
use Rattle.std.specs.Prelude.{ℕ, ◌≤◌, ◌<◌}

-- r is `below`, or the lowest word below it that does not do what is asked of it
pub record Lowered (asked : ℕ → Type 0) (below r : ℕ) : Type 0 where
  pub most : r ≤ below
  pub obeyed : (q : ℕ) → q < r → asked q
  pub broken : r < below → asked r → ⊥
