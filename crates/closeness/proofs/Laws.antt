-- Laws of letters that agree, one by one.
use Prim.Native.Nat.{ℕ, suc, ◌+◌, ◌<◌, ◌≤◌}
use mathlib.Core.Path.{◌≡◌, refl, ap, ◌∙◌}
use mathlib.Core.Bool.{Bool, true, false, ◌&&◌}
use mathlib.Core.List.{List, [], ◌∷◌}
use native.Mathlib.Numerals.{add-one}
use lib.Dec.{eqb}
use lib.Pointwise.{pointwise}
use borrow.Author.Tests.{eq-eqb, ne_eqb}
use lib.ListN.{length, get_or, drop, drop_of_length-le}
use lib.Seq.{drop-cons}
use Rattle.closeness.specs.Closeness.{same, shared, agree, exchanged, close_from}

pointwise-same : (x y : List ℕ) → pointwise eqb x y ≡ same x y
unfolding same
pointwise-same [] [] = refl
pointwise-same [] (b ∷ y) = refl
pointwise-same (a ∷ x) [] = refl
pointwise-same (a ∷ x) (b ∷ y) = ap (λ (t : Bool). eqb a b && t) (pointwise-same x y) ∙ by (eqb a b)
  where
    by : (t : Bool) → (t && same x y) ≡ elim t [ true ↦ same x y | false ↦ false ]
    by true = refl
    by false = refl

pub agree-pointwise : (x y : List ℕ) (i j : ℕ) → pointwise eqb (drop i x) (drop j y) ≡ agree x i y j
unfolding agree
agree-pointwise x y i j = pointwise-same (drop i x) (drop j y)

module _ (x y : List ℕ) (i : ℕ) where
  pub shared-none : length x ≤ i → shared (drop i x) (drop i y) ≡ 0
  unfolding shared
  shared-none h = rw (drop_of_length-le x h, shared)

  pub shared-short : i < length x → length y ≤ i → shared (drop i x) (drop i y) ≡ 0
  unfolding shared
  shared-short h k = rw (drop-cons x i 0 h, drop_of_length-le y k, shared)

  pub shared-other : i < length x → i < length y → (get_or x i 0 ≡ get_or y i 0 → ⊥) → shared (drop i x) (drop i y) ≡ 0
  unfolding shared
  shared-other h k n = rw (drop-cons x i 0 h, drop-cons y i 0 k, shared, ne_eqb (get_or x i 0) (get_or y i 0) n)

  pub shared-more : i < length x → i < length y → get_or x i 0 ≡ get_or y i 0 → shared (drop i x) (drop i y) ≡ suc (shared (drop (i + 1) x) (drop (i + 1) y))
  unfolding shared
  shared-more h k e = rw (add-one, drop-cons x i 0 h, drop-cons y i 0 k, shared, eq-eqb (get_or x i 0) (get_or y i 0) e)

  pub exchanged-first : (get_or x i 0 ≡ get_or y (i + 1) 0 → ⊥) → exchanged x y i ≡ false
  unfolding exchanged
  exchanged-first n = rw (exchanged, ne_eqb (get_or x i 0) (get_or y (i + 1) 0) n)

  pub exchanged-second : get_or x i 0 ≡ get_or y (i + 1) 0 → (get_or x (i + 1) 0 ≡ get_or y i 0 → ⊥) → exchanged x y i ≡ false
  unfolding exchanged
  exchanged-second e n = rw (exchanged, eq-eqb (get_or x i 0) (get_or y (i + 1) 0) e, ne_eqb (get_or x (i + 1) 0) (get_or y i 0) n)

  pub exchanged-rest : get_or x i 0 ≡ get_or y (i + 1) 0 → get_or x (i + 1) 0 ≡ get_or y i 0 → agree x (i + 2) y (i + 2) ≡ exchanged x y i
  unfolding exchanged
  exchanged-rest e f = rw (exchanged, eq-eqb (get_or x i 0) (get_or y (i + 1) 0) e, eq-eqb (get_or x (i + 1) 0) (get_or y i 0) f)

  pub close-changed : agree x (i + 1) y (i + 1) ≡ true → close_from x y i ≡ true
  unfolding close_from
  close-changed t = rw (close_from, t)

  pub close-added : agree x (i + 1) y (i + 1) ≡ false → agree x i y (i + 1) ≡ true → close_from x y i ≡ true
  unfolding close_from
  close-added f t = rw (close_from, f, t)

  pub close-left : agree x (i + 1) y (i + 1) ≡ false → agree x i y (i + 1) ≡ false → agree x (i + 1) y i ≡ true → close_from x y i ≡ true
  unfolding close_from
  close-left f g t = rw (close_from, f, g, t)

  pub close-exchanged : agree x (i + 1) y (i + 1) ≡ false → agree x i y (i + 1) ≡ false → agree x (i + 1) y i ≡ false → exchanged x y i ≡ close_from x y i
  unfolding close_from
  close-exchanged f g t = rw (close_from, f, g, t)
