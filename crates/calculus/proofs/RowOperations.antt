-- Firing a rule that writes, as an operation on the words of one row; and the test of an element, as a digit of one word.
use Prim.Native.Nat.{ℕ, ◌+◌, ◌-◌, ◌*◌, ◌/◌, ◌%◌, ◌^◌, ◌≤◌, ◌<◌}
use mathlib.Core.Path.{◌≡◌, refl, ap, ap₂, ◌∙◌}
use mathlib.Core.List.{List, [], ◌∷◌}
use mathlib.Core.Bool.{Bool, true, false, ◌&&◌}
use native.Mathlib.Omega.{arith}
use borrow.Author.Tests.{lt-ltb}
use lib.Dec.{ltb, lit<}
use lib.ListN.{length, get_or}
use Rattle.permset.specs.Sets.{width, member}
use Rattle.permset.proofs.Laws.{member-empty}
use Rattle.table.specs.Code.{Code}
use Rattle.calculus.specs.Elements.{elements}
use Rattle.calculus.specs.Constraint.{Row, C, B, P, L, put, sub}
use Rattle.calculus.specs.Layout.{pour, mark, owner, row_words, base, shift, span, place, allowed, sets, content, WellFormed}
use Rattle.calculus.specs.Estimate.{fire}
use Rattle.calculus.proofs.Slices.{bit_at}
use Rattle.calculus.proofs.Places.{place-lt, is-allowed}

module _ (c : Code) where
  -- ---- where the rows are

  -- the rows of words of the code lie inside the estimate
  pub C-inside : (ws : List ℕ) → WellFormed c ws → (i : ℕ) → i < c.size → base c (C i) + row_words c ≤ length ws
  unfolding owner span place shift row_words
  C-inside ws w i h = omega (arith, place-lt c (C i) (elements c - 1) (is-allowed c (C i) (elements c - 1) h (omega arith)), w.long)

  -- ---- an element put

  put-at : (r : Row) (v : ℕ) (ws : List ℕ) (k j : ℕ) → j < 32 → place c r v ≡ 32 * k + j → fire c (put r v) ws ≡ pour ws k (2 ^ j ∷ [])
  unfolding fire mark
  put-at r v ws k j h e =
      let d : (32 * k + j) / 32 ≡ k = omega arith in
      let m : (32 * k + j) % 32 ≡ j = omega arith in
      rw (e, d, m)

  pub fire-put-C : (i v : ℕ) (ws : List ℕ) → fire c (put (C i) v) ws ≡ pour ws (base c (C i) + v / 32) (2 ^ (v % 32) ∷ [])
  unfolding place shift
  fire-put-C i v ws = put-at (C i) v ws (base c (C i) + v / 32) (v % 32) (omega arith) (omega arith)

  pub fire-put-B : (i v : ℕ) (ws : List ℕ) → fire c (put (B i) v) ws ≡ pour ws (base c (B i) + v / 32) (2 ^ (v % 32) ∷ [])
  unfolding place shift
  fire-put-B i v ws = put-at (B i) v ws (base c (B i) + v / 32) (v % 32) (omega arith) (omega arith)

  pub fire-live : (i : ℕ) (ws : List ℕ) → fire c (put (L i) 0) ws ≡ pour ws (base c (L i)) (2 ^ width ∷ [])
  unfolding place shift
  fire-live i ws = put-at (L i) 0 ws (base c (L i)) width (omega arith) (omega arith)

  -- ---- a row passed on

  pub fire-sub : (a b : Row) (ws : List ℕ) → fire c (sub a b) ws ≡ pour ws (base c b) (content c ws a)
  unfolding fire
  fire-sub a b ws = refl

  pub fire-sub-P : (i : ℕ) (b : Row) (ws : List ℕ) → fire c (sub (P i) b) ws ≡ pour ws (base c b) (get_or ws (base c (P i)) 0 % 2 ^ width ∷ [])
  unfolding fire content
  fire-sub-P i b ws = refl

  -- ---- an element tested

  -- no more is asked of the test than that the digit is where it is
  sets-at : (r : Row) (v : ℕ) (ws : List ℕ) (k j : ℕ) → j < 32 → place c r v ≡ 32 * k + j → sets c ws r v ≡ allowed c r v && member (get_or ws k 0) j
  unfolding sets
  sets-at r v ws k j h e = rw e (ap (λ (t : Bool). allowed c r v && t) (bit_at ws k j h))

  is_true : (a b : Bool) (x y : Bool) → a ≡ true → b ≡ true → x ≡ (a && b) && y → x ≡ y
  is_true a b x y p q e = e ∙ ap₂ (λ (s t : Bool). (s && t) && y) p q

  set_at : (r : Row) (v : ℕ) (ws : List ℕ) (k j : ℕ) → j < 32 → place c r v ≡ 32 * k + j → owner r < c.size → v < span c r
      → sets c ws r v ≡ member (get_or ws k 0) j
  unfolding allowed
  set_at r v ws k j h e o s =
      is_true (ltb (owner r) c.size) (ltb v (span c r)) (sets c ws r v) (member (get_or ws k 0) j) (lt-ltb (owner r) c.size o)
      (lt-ltb v (span c r) s) (sets-at r v ws k j h e)

  pub sets-C : (i v : ℕ) (ws : List ℕ) → i < c.size → v < elements c
      → sets c ws (C i) v ≡ member (get_or ws (base c (C i) + v / 32) 0) (v % 32)
  unfolding place shift owner span
  sets-C i v ws h l = set_at (C i) v ws (base c (C i) + v / 32) (v % 32) (omega arith) (omega arith) h l

  pub sets-B : (i v : ℕ) (ws : List ℕ) → i < c.size → v < elements c
      → sets c ws (B i) v ≡ member (get_or ws (base c (B i) + v / 32) 0) (v % 32)
  unfolding place shift owner span
  sets-B i v ws h l = set_at (B i) v ws (base c (B i) + v / 32) (v % 32) (omega arith) (omega arith) h l

  pub sets-P : (i v : ℕ) (ws : List ℕ) → i < c.size → v < width → sets c ws (P i) v ≡ member (get_or ws (base c (P i)) 0) v
  unfolding place shift owner span
  sets-P i v ws h l = set_at (P i) v ws (base c (P i)) v (omega arith) (omega arith) h l

  pub sets-L : (i : ℕ) (ws : List ℕ) → i < c.size → sets c ws (L i) 0 ≡ member (get_or ws (base c (L i)) 0) width
  unfolding place shift owner span
  sets-L i ws h = set_at (L i) 0 ws (base c (L i)) width (omega arith) (omega arith) h (lit< tt)

  -- where a word of a row is 0, none of its elements is there
  and-false : (a x y : Bool) → y ≡ false → x ≡ a && y → x ≡ false
  and-false true x y p e = e ∙ p
  and-false false x y p e = e

  pub empty-C : (i v : ℕ) (ws : List ℕ) → get_or ws (base c (C i) + v / 32) 0 ≡ 0 → sets c ws (C i) v ≡ false
  unfolding place shift
  empty-C i v ws z =
      and-false (allowed c (C i) v) (sets c ws (C i) v) (member (get_or ws (base c (C i) + v / 32) 0) (v % 32))
      (ap (λ (x : ℕ). member x (v % 32)) z ∙ member-empty (v % 32))
      (sets-at (C i) v ws (base c (C i) + v / 32) (v % 32) (omega arith) (omega arith))
