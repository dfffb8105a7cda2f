-- Positions written one after the other: what is still to be written, put behind what is, gives the whole.
use Prim.Native.Nat.{ℕ, zero, suc, ◌+◌, ◌-◌, ◌^◌, ◌≤◌, ◌<◌}
use mathlib.Core.Path.{◌≡◌, refl, sym, ap, ◌∙◌, subst}
use mathlib.Core.Bool.{Bool, true, false}
use mathlib.Core.List.{List, [], ◌∷◌, ◌++◌}
use native.Mathlib.Nat.{zero-add}
use native.Mathlib.Numerals.{add-one}
use native.Mathlib.Omega.{arith}
use lib.Dec.{ltb}
use lib.ListN.{length, drop, set, length-set}
use lib.Seq.{sets, sets-eq}
use borrow.Author.Tests.{lt-ltb, le-ltb}
use Rattle.permset.specs.Sets.{difference}
use Rattle.graph.specs.Search.{lowest_free, order_from, reaching, lowest_next, follow}
use Rattle.graph.specs.Answer.{starting_with}

-- `now` with `rest` written from i on is `old` with `all` written from its start
pub record Partly (old all now : List ℕ) (i : ℕ) (rest : List ℕ) : Type 0 where
  pub size : length now ≡ length old
  pub content : sets now i rest ≡ sets old 0 all

module _ (old all : List ℕ) where
  pub partly-start : Partly old all old 0 all
  partly-start = record { size = refl; content = refl }

  pub partly-on : (now : List ℕ) (i x : ℕ) (left rest : List ℕ) → left ≡ x ∷ rest → Partly old all now i left → Partly old all (set now i x) (i + 1) rest
  partly-on now i x left rest e w =
      record {
        size = length-set now i x ∙ w.size;
        content = ap (λ (k : ℕ). sets (set now i x) k rest) (add-one i) ∙ ap (sets now i) (sym e) ∙ w.content;
      }

  pub partly-end : (now : List ℕ) (i : ℕ) (left : List ℕ) → left ≡ [] → length all ≤ length old → Partly old all now i left → now ≡ starting_with all old
  partly-end now i left e l w =
      ap (sets now i) (sym e) ∙ w.content ∙ sets-eq all old 0 (subst (λ (k : ℕ). k ≤ length old) (sym (zero-add (length all))) l)
      ∙ ap (λ (k : ℕ). all ++ drop k old) (zero-add (length all))

-- ---- the order

module _ (rows : List ℕ) (n : ℕ) where
  -- the clause of `order_from`, by the answer of its test and the position
  abbrev clause : (count left : ℕ) → Bool → ℕ → List ℕ
  clause count left b p = elim b [ true ↦ p ∷ order_from rows n count (difference left (2 ^ p)) | false ↦ [] ]

  -- a position is free: it is next
  pub order-on : (count left p next : ℕ) → count < n → p ≡ lowest_free rows n left → p < n → next ≡ difference left (2 ^ p)
      → order_from rows n (n - count) left ≡ p ∷ order_from rows n (n - (count + 1)) next
  unfolding order_from
  order-on count left p next h e l d =
      let k : n - count ≡ suc (n - (count + 1)) = omega arith in
      ap (λ (c : ℕ). order_from rows n c left) k
      ∙ ap (λ (b : Bool). clause (n - (count + 1)) left b (lowest_free rows n left))
      (lt-ltb (lowest_free rows n left) n (subst (λ (q : ℕ). q < n) e l))
      ∙ ap (clause (n - (count + 1)) left true) (sym e)
      ∙ ap (λ (s : ℕ). p ∷ order_from rows n (n - (count + 1)) s) (sym d)

  -- none is, or none is asked for
  pub order-stop : (count left : ℕ) → n ≤ lowest_free rows n left → order_from rows n count left ≡ []
  unfolding order_from
  order-stop zero left l = refl
  order-stop (suc count) left l =
      ap (λ (b : Bool). clause count left b (lowest_free rows n left)) (le-ltb (lowest_free rows n left) n l)

  pub order-none : (count left : ℕ) → n ≤ count → order_from rows n (n - count) left ≡ []
  unfolding order_from
  order-none count left h = let k : n - count ≡ 0 = omega arith in ap (λ (c : ℕ). order_from rows n c left) k

  pub order-length : (count left : ℕ) → length (order_from rows n count left) ≤ count
  unfolding order_from
  order-length zero left = omega arith
  order-length (suc count) left = go (ltb (lowest_free rows n left) n) (order-length count (difference left (2 ^ lowest_free rows n left)))
    where
      go : (b : Bool) → length (order_from rows n count (difference left (2 ^ lowest_free rows n left))) ≤ count
          → length (clause count left b (lowest_free rows n left)) ≤ suc count
      go true h = omega arith
      go false h = omega arith

-- ---- the loop

module _ (rows : List ℕ) (alive n t : ℕ) where
  pub follow-on : (m i x next : ℕ) → i < m → next ≡ lowest_next rows n (reaching rows alive t (m - (i + 1))) x
      → follow rows alive n t (m - i) x ≡ x ∷ follow rows alive n t (m - (i + 1)) next
  unfolding follow
  follow-on m i x next h e =
      let k : m - i ≡ suc (m - (i + 1)) = omega arith in
      ap (λ (c : ℕ). follow rows alive n t c x) k ∙ ap (λ (z : ℕ). x ∷ follow rows alive n t (m - (i + 1)) z) (sym e)

  pub follow-none : (m i x : ℕ) → m ≤ i → follow rows alive n t (m - i) x ≡ []
  unfolding follow
  follow-none m i x h = let k : m - i ≡ 0 = omega arith in ap (λ (c : ℕ). follow rows alive n t c x) k
