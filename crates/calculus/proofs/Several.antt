-- Counts of at least one and of at least two, and the numbers that are counted.
use Prim.Native.Nat.{ℕ, zero, suc, ◌+◌, ◌-◌, ◌≤◌, ◌<◌}
use mathlib.Core.Path.{◌≡◌, refl, sym, ap, ◌∙◌, subst}
use mathlib.Core.Bool.{Bool, true, false}
use native.Mathlib.Decide.{dec_lt}
use native.Mathlib.Omega.{arith}
use lib.Dec.{T, ltb, ltb→lt, lt→ltb}
use Rattle.calculus.proofs.Counting.{count, count-mono, count-equal, count_add, count-below}

none_below : (n : ℕ) (f : ℕ → Bool) → ((k : ℕ) → k < n → T (f k) → ⊥) → count n f ≡ 0
none_below n f h = omega (arith, count-mono n f (λ j. ltb j 0) (λ k l t. absurd (h k l t)), count-below n 0 (omega arith))

last_of : (n : ℕ) (f : ℕ → Bool) → count (suc n) f ≡ count n f + count 1 (λ k. f (n + k))
last_of n f = let e : suc n ≡ n + 1 = omega arith in ap (λ (m : ℕ). count m f) e ∙ count_add n 1 f

pub some_one : (n : ℕ) (f : ℕ → Bool) → 0 < count n f → (x : ℕ) × (x < n) × T (f x)
some_one zero f h = absurd (omega (arith, none_below zero f (λ k l t. absurd (omega arith))))
some_one (suc n) f h = go (some_one n f) (dec_lt 0 (count n f)) (f n) refl
  where
    go : (0 < count n f → (x : ℕ) × (x < n) × T (f x)) → Dec (0 < count n f) → (b : Bool) → f n ≡ b → (x : ℕ) × (x < suc n) × T (f x)
    go r (yes l) b e = let x : (x : ℕ) × (x < n) × T (f x) = r l in let m : x.0 < n = x.1 in (x.0, omega arith, x.2)
    go r (no l) true e = (n, omega arith, subst T (sym e) tt)
    go r (no l) false e =
        absurd
        (omega (
          arith,
          last_of n f,
          none_below 1 (λ k. f (n + k)) (λ k i t. let z : n + k ≡ n = omega arith in subst T (ap f z ∙ e) t),
        ))

pub one-some : (n : ℕ) (f : ℕ → Bool) (x : ℕ) → x < n → T (f x) → 0 < count n f
one-some n f x l t = go (dec_lt 0 (count n f))
  where
    go : Dec (0 < count n f) → 0 < count n f
    go (yes h) = h
    go (no h) =
        absurd
        (omega (
          arith,
          ltb→lt x 0
              (count-equal n (λ j. ltb j 0) f (λ k i s. absurd (omega (arith, ltb→lt k 0 s))) (omega (arith, count-below n 0 (omega arith))) x l t),
        ))

-- two numbers that pass
pub record Two (f : ℕ → Bool) : Type 0 where
  pub lower : ℕ
  pub upper : ℕ
  pub ordered : lower < upper
  pub at-lower : T (f lower)
  pub at-upper : T (f upper)

pub some-two : (n : ℕ) (f : ℕ → Bool) → 1 < count n f → Two f
some-two zero f h = absurd (omega (arith, none_below zero f (λ k l t. absurd (omega arith))))
some-two (suc n) f h = go (some-two n f) (dec_lt 1 (count n f))
  where
    go : (1 < count n f → Two f) → Dec (1 < count n f) → Two f
    go r (yes l) = r l
    go r (no l) =
        let m : count 1 (λ k. f (n + k)) ≤ 1 =
        omega (arith, count-mono 1 (λ k. f (n + k)) (λ j. ltb j 1) (λ k i t. lt→ltb k 1 i), count-below 1 1 (omega arith))
        in
        let x : (x : ℕ) × (x < n) × T (f x) = some_one n f (omega (arith, last_of n f)) in
        let y : (k : ℕ) × (k < 1) × T (f (n + k)) = some_one 1 (λ k. f (n + k)) (omega (arith, last_of n f)) in
        let i : y.0 < 1 = y.1 in
        let j : x.0 < n = x.1 in
        record { lower = x.0; upper = n + y.0; ordered = omega arith; at-lower = x.2; at-upper = y.2 }

pub two-some : (n : ℕ) (f : ℕ → Bool) (x y : ℕ) → x < y → y < n → T (f x) → T (f y) → 1 < count n f
two-some n f x y h l s t =
    let e : n ≡ y + (n - y) = omega arith in
    let c : count n f ≡ count y f + count (n - y) (λ k. f (y + k)) = ap (λ (m : ℕ). count m f) e ∙ count_add y (n - y) f in
    let z : y ≡ y + 0 = omega arith in
    omega (arith, one-some y f x h s, one-some (n - y) (λ k. f (y + k)) 0 (omega arith) (subst (λ (k : ℕ). T (f k)) z t))
