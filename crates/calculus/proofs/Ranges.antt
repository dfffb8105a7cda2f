-- Membership in a range of numbers.
use Prim.Native.Nat.{ℕ, zero, suc, ◌+◌, ◌≤◌, ◌<◌}
use mathlib.Core.Path.{◌≡◌}
use mathlib.Core.List.Memᴰ
use mathlib.Core.List.{Memᴰ}
use mathlib.Core.Logic.{⊎_elim}
use native.Mathlib.Decide.{ℕ_discrete}
use native.Mathlib.Omega.{arith}
use Rattle.calculus.specs.Constraint.{range}

range-has : (n i k : ℕ) → i ≤ k → k < i + n → Memᴰ k (range n i)
unfolding range
range-has zero i k h l = absurd (omega arith)
range-has (suc n) i k h l = go (λ m. range-has n (suc i) k m (omega arith)) (ℕ_discrete k i)
  where
    go : (suc i ≤ k → Memᴰ k (range n (suc i))) → Dec (k ≡ i) → Memᴰ k (range (suc n) i)
    go r (yes e) = Memᴰ.head e
    go r (no e) = Memᴰ.tail (r (omega arith))

pub range-bound : (n i k : ℕ) → Memᴰ k (range n i) → k < i + n
unfolding range
range-bound zero i k m = absurd (Memᴰ.not-nil m)
range-bound (suc n) i k m =
    ⊎_elim (λ e. omega arith) (λ r. let l : k < suc i + n = range-bound n (suc i) k r in omega arith) (Memᴰ.cases_cons m)

-- the numbers below n are those of `range n 0`
pub below_in : {n k : ℕ} → k < n → Memᴰ k (range n 0)
below_in {n} {k} h = range-has n 0 k (omega arith) (omega arith)

pub in-below : {n k : ℕ} → Memᴰ k (range n 0) → k < n
in-below {n} {k} m = omega (arith, range-bound n 0 k m)
