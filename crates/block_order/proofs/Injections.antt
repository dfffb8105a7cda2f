-- Counts compared by an injection: where each number that passes one test goes to one of its own that passes another, the second count is
-- no smaller.
use Prim.Native.Nat.{ℕ, zero, suc, ◌+◌, ◌≤◌, ◌<◌}
use mathlib.Core.Path.{◌≡◌, refl, sym, ap, ◌∙◌, subst}
use mathlib.Core.Logic.{◌≢◌}
use mathlib.Core.Bool.{Bool, true, false, not, ◌&&◌}
use native.Mathlib.Omega.{arith}
use borrow.Author.Tests.{lt-ltb, le-ltb, eq-eqb, ne_eqb}
use lib.Dec.{T, eqb, ltb}
use Rattle.calculus.proofs.Counting.{count, count-ext, count_add, count-below}

-- ---- the first number, and the rest

count-zero : (f : ℕ → Bool) → count 0 f ≡ 0
count-zero f = count-ext 0 f (λ j. ltb j 0) (λ k l. absurd (omega arith)) ∙ count-below 0 0 (omega arith)

count-first : (f : ℕ → Bool) → f 0 ≡ true → count 1 f ≡ 1
count-first f h = count-ext 1 f (λ j. ltb j 1) (λ k l. ap f (at k l) ∙ h ∙ sym (lt-ltb k 1 l)) ∙ count-below 1 1 (omega arith)
  where
    at : (k : ℕ) → k < 1 → k ≡ 0
    at k l = omega arith

count-not-first : (f : ℕ → Bool) → f 0 ≡ false → count 1 f ≡ 0
count-not-first f h = count-ext 1 f (λ j. ltb j 0) (λ k l. ap f (at k l) ∙ h ∙ sym (le-ltb k 0 (omega arith))) ∙ count-below 1 0 (omega arith)
  where
    at : (k : ℕ) → k < 1 → k ≡ 0
    at k l = omega arith

count-suc : (n : ℕ) (f : ℕ → Bool) → count (suc n) f ≡ count 1 f + count n (λ k. f (suc k))
count-suc n f =
    ap (λ (m : ℕ). count m f) (let e : suc n ≡ 1 + n = omega arith in e)
    ∙ count_add 1 n f
    ∙ ap (λ (m : ℕ). count 1 f + m) (count-ext n (λ k. f (1 + k)) (λ k. f (suc k)) (λ k l. ap f (let e : 1 + k ≡ suc k = omega arith in e)))

-- ---- one number less

is_true : (b : Bool) → T b → b ≡ true
is_true true t = refl
is_true false t = absurd t

one_less : (n : ℕ) (g h : ℕ → Bool) (m : ℕ) → m < n → T (g m) → h m ≡ false → ((k : ℕ) → k < n → k ≢ m → h k ≡ g k) → count n g ≡ suc (count n h)
one_less zero g h m l t f e = absurd (omega arith)
one_less (suc n) g h zero l t f e =
    let a = count-first g (is_true (g 0) t) in
    let b = count-not-first h f in
    let c = count-ext n (λ k. h (suc k)) (λ k. g (suc k)) (λ k i. e (suc k) (omega arith) (λ z. omega arith)) in
    omega (arith, count-suc n g, count-suc n h)
one_less (suc n) g h (suc m) l t f e =
    let a = count-ext 1 h g (λ k i. e k (omega arith) (λ z. omega arith)) in
    let b = one_less n (λ k. g (suc k)) (λ k. h (suc k)) m (omega arith) t f (λ k i z. e (suc k) (omega arith) (λ y. z (omega arith))) in
    omega (arith, count-suc n g, count-suc n h)

-- g without the number m
without : (ℕ → Bool) → ℕ → ℕ → Bool
without g m k = g k && not (eqb k m)

and-false : (b : Bool) → (b && false) ≡ false
and-false true = refl
and-false false = refl

and-true : (b : Bool) → (b && true) ≡ b
and-true true = refl
and-true false = refl

without-it : (g : ℕ → Bool) (m : ℕ) → without g m m ≡ false
unfolding without
without-it g m = ap (λ (b : Bool). g m && not b) (eq-eqb m m refl) ∙ and-false (g m)

without_other : (g : ℕ → Bool) (m k : ℕ) → k ≢ m → without g m k ≡ g k
unfolding without
without_other g m k h = ap (λ (b : Bool). g k && not b) (ne_eqb k m h) ∙ and-true (g k)

-- ---- an injection

pub record Injects (n m : ℕ) (f g : ℕ → Bool) : Type 0 where
  pub image : (k : ℕ) → k < n → T (f k) → ℕ
  pub below : (k : ℕ) (l : k < n) (t : T (f k)) → image k l t < m
  pub lands : (k : ℕ) (l : k < n) (t : T (f k)) → T (g (image k l t))
  pub apart : (k : ℕ) (l : k < n) (t : T (f k)) (j : ℕ) (i : j < n) (u : T (f j)) → image k l t ≡ image j i u → k ≡ j

module _ (n m : ℕ) (f g : ℕ → Bool) (x : Injects (suc n) m f g) where
  abbrev up : (k : ℕ) → k < n → suc k < suc n
  up k l = omega arith

  low : 0 < suc n
  low = omega arith

  -- the rest, among what lands outside h
  rest : (h : ℕ → Bool) → ((k : ℕ) (l : k < n) (t : T (f (suc k))) → T (h (x.image (suc k) (up k l) t))) → Injects n m (λ k. f (suc k)) h
  rest h lands =
      record {
        image = λ k l t. x.image (suc k) (up k l) t;
        below = λ k l t. x.below (suc k) (up k l) t;
        lands = lands;
        apart = λ k l t j i u z. let s = x.apart (suc k) (up k l) t (suc j) (up j i) u z in omega arith;
      }

  step : ((h : ℕ → Bool) → Injects n m (λ k. f (suc k)) h → count n (λ k. f (suc k)) ≤ count m h) → (b : Bool) → f 0 ≡ b → count (suc n) f ≤ count m g
  step later false e =
      omega (arith, later g (rest g (λ k l t. x.lands (suc k) (up k l) t)), count-suc n f, count-not-first f e)
  step later true e =
      let t0 : T (f 0) = subst T (sym e) tt in
      let p = x.image 0 low t0 in
      let others : (k : ℕ) (l : k < n) (t : T (f (suc k))) → T (without g p (x.image (suc k) (up k l) t)) =
      λ k l t. subst T (sym (without_other g p (x.image (suc k) (up k l) t) (λ z. let y = x.apart (suc k) (up k l) t 0 low t0 z in omega arith)))
      (x.lands (suc k) (up k l) t) in
      omega (
        arith,
        one_less m g (without g p) p (x.below 0 low t0) (x.lands 0 low t0) (without-it g p) (λ k l h. without_other g p k h),
        later (without g p) (rest (without g p) others),
        count-suc n f,
        count-first f e,
      )

pub injected : (n m : ℕ) (f g : ℕ → Bool) → Injects n m f g → count n f ≤ count m g
injected zero m f g x = omega (arith, count-zero f)
injected (suc n) m f g x = step n m f g x (λ h y. injected n m (λ k. f (suc k)) h y) (f 0) refl
