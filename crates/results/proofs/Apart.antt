-- Whether two sides give two different values, by its tests one after another.
use Prim.Native.Nat.{ℕ, ◌+◌, ◌^◌, ◌<◌}
use mathlib.Core.Path.{◌≡◌, refl, ap₂, ◌∙◌}
use mathlib.Core.Bool.{Bool, true, false, not, ◌&&◌, ◌||◌}
use mathlib.Core.List.{List, [], ◌∷◌}
use lib.Bits.{bit_and}
use lib.Count.{ones}
use lib.Dec.{eqb, ltb}
use lib.Pointwise.{pointwise}
use Rattle.calculus.specs.Layout.{masked}
use Rattle.calculus.specs.Estimate.{same, facts}
use Rattle.calculus.specs.ResultWords.{nonzero, apart}
use Rattle.results.proofs.Sides.{facts-first}

masked-none : (xs : List ℕ) → nonzero (masked xs []) ≡ false
unfolding masked nonzero
masked-none [] = refl
masked-none (x ∷ xs) = refl

-- the test of two slices
same-slices : (xs ys : List ℕ) → same xs ys ≡ pointwise eqb xs ys
unfolding same
same-slices [] [] = refl
same-slices [] (y ∷ ys) = refl
same-slices (x ∷ xs) [] = refl
same-slices (x ∷ xs) (y ∷ ys) = go (eqb x y) (same-slices xs ys)
  where
    go : (b : Bool) → same xs ys ≡ pointwise eqb xs ys → (elim b [ true ↦ same xs ys | false ↦ false ]) ≡ (b && pointwise eqb xs ys)
    go true e = e
    go false e = refl

pub apart_tests : (x y : ℕ) (a d : List ℕ) → x < 2 ^ 32
    → apart (x ∷ a) (y ∷ d) ≡ (not (eqb (bit_and (bit_and x y) 336) 0) || (not (eqb x y) || (not (pointwise eqb a d) || ltb 1 (ones x + facts a))))
unfolding apart masked nonzero
apart_tests x y a d h =
    ap₂ (λ (b c : Bool). b || c) (shared (eqb (bit_and (bit_and x y) 336) 0) (masked-none (masked a d)))
    (ap₂ (λ (b : Bool) (n : ℕ). not b || ltb 1 n) (same-slices (x ∷ a) (y ∷ d)) (facts-first x a h) ∙ split (eqb x y) (pointwise eqb a d))
  where
    shared : (b : Bool) → nonzero (masked (masked a d) []) ≡ false → (elim b [ true ↦ nonzero (masked (masked a d) []) | false ↦ true ]) ≡ not b
    shared true e = e
    shared false e = refl

    split : (b c : Bool) → (not (b && c) || ltb 1 (ones x + facts a)) ≡ (not b || (not c || ltb 1 (ones x + facts a)))
    split true c = refl
    split false c = refl
