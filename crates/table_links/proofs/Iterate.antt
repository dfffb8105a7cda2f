-- Laws of `iterate`, for a loop whose counter goes up to n.
-- Assumes nothing.
use mathlib.Core.Path.{◌≡◌}
use Prim.Native.Nat.{ℕ, suc, ◌+◌, ◌-◌, ◌<◌, ◌≤◌}
use native.Mathlib.Omega.{arith}
use Rattle.table.specs.Links.{iterate}

pub iterate_more : (f : ℕ → ℕ) (n k p : ℕ) → k < n → iterate f (n - k) p ≡ iterate f (n - (k + 1)) (f p)
unfolding iterate
iterate_more f n k p h = let e : n - k ≡ suc (n - (k + 1)) = omega arith in rw e

pub iterate_done : (f : ℕ → ℕ) (n k p : ℕ) → n ≤ k → iterate f (n - k) p ≡ p
unfolding iterate
iterate_done f n k p h = let e : n - k ≡ 0 = omega arith in rw e
