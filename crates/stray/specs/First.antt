-- The first number of a range that fails a test.
use Rattle.std.specs.Prelude.{ℕ, ◌≤◌, ◌<◌, ◌≡◌, Bool, true, false}

-- r is the first of the numbers from a up to b that fails the test q; b where none does
pub record First (q : ℕ → Bool) (a b r : ℕ) : Type 0 where
  pub low : a ≤ r
  pub most : r ≤ b
  pub before : (k : ℕ) → a ≤ k → k < r → q k ≡ true
  pub fails : r < b → q r ≡ false
