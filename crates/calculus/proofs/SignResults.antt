-- The results of add and less: the or over the nine pairs of signs of an entry in a table of masks.
use Prim.Native.Nat.{ℕ, zero, suc, ◌+◌, ◌*◌, ◌/◌, ◌%◌, ◌≤◌, ◌<◌}
use mathlib.Core.Path.{◌≡◌, refl, sym, ap, ◌∙◌, subst}
use mathlib.Core.List.{List, [], map, Memᴰ}
use mathlib.Core.Logic.{⊎_elim}
use mathlib.Core.Bool.{Bool, true, false, ◌&&◌, ◌||◌}
use native.Mathlib.Decide.{ℕ_discrete}
use native.Mathlib.Omega.{arith}
use lib.Dec.{T, leb, leb→le, le→leb}
use lib.ListN.{get_or, get_or-map}
use Rattle.permset.specs.Sets.{member}
use Rattle.permset.proofs.Laws.{member-empty}
use Rattle.table.specs.declared.Operation.{Operation}
use Rattle.table.specs.declared.Operation.TheVariants as operations
use Rattle.table.specs.Code.{Code}
use Rattle.calculus.specs.Elements.{is_sign, sign_place, sum_signs, less_signs, by_signs, results}
use Rattle.calculus.specs.Layout.{bit}
unfoldable pub use Rattle.calculus.specs.ResultWords.{sign_entry, signs_below, sum_masks, less_masks}
use Rattle.calculus.proofs.Digits.{T_and, T-fst, T-snd, T-or, T-or-left, T-or-right, member-or}
use Rattle.calculus.proofs.Slices.{bit_at}
use Rattle.calculus.proofs.OperationMasks.{Gives, marks, marks-has, marks-only, result_mask, results-are}

-- ---- the digits of the or

module _ (t : List ℕ) (a d z : ℕ) where
  pub record Entry (n : ℕ) : Type 0 where
    pub number : ℕ
    pub below : number < n
    pub row : T (member a (4 + number / 3))
    pub column : T (member d (4 + number % 3))
    pub digit : T (member (get_or t number 0) z)

  entry_in : (k : ℕ) → T (member a (4 + k / 3)) → T (member d (4 + k % 3)) → T (member (get_or t k 0) z) → T (member (sign_entry t a d k) z)
  unfolding sign_entry
  entry_in k h l m = go (member a (4 + k / 3) && member d (4 + k % 3)) (T_and (member a (4 + k / 3)) (member d (4 + k % 3)) h l)
    where
      go : (b : Bool) → T b → T (member (elim b [ true ↦ get_or t k 0 | false ↦ 0 ]) z)
      go true s = m
      go false s = absurd s

  entry-only : (k : ℕ) → T (member (sign_entry t a d k) z) → T (member a (4 + k / 3) && member d (4 + k % 3)) × T (member (get_or t k 0) z)
  unfolding sign_entry
  entry-only k h = go (member a (4 + k / 3) && member d (4 + k % 3)) h
    where
      go : (b : Bool) → T (member (elim b [ true ↦ get_or t k 0 | false ↦ 0 ]) z) → T b × T (member (get_or t k 0) z)
      go true m = (tt, m)
      go false m = absurd (subst T (member-empty z) m)

  signs-in : (n : ℕ) → Entry n → T (member (signs_below t a d n) z)
  unfolding signs_below
  signs-in zero e = let l : e.number < zero = e.below in absurd (omega arith)
  signs-in (suc n) e =
      subst T (sym (member-or (signs_below t a d n) (sign_entry t a d n) z)) (go (signs-in n) (ℕ_discrete e.number n))
    where
      go : (Entry n → T (member (signs_below t a d n) z)) → Dec (e.number ≡ n)
          → T (member (signs_below t a d n) z || member (sign_entry t a d n) z)
      go r (yes q) =
          T-or-right (member (signs_below t a d n) z) (member (sign_entry t a d n) z)
          (subst (λ (k : ℕ). T (member (sign_entry t a d k) z)) q (entry_in e.number e.row e.column e.digit))
      go r (no q) =
          let l : e.number < suc n = e.below in
          T-or-left (member (signs_below t a d n) z) (member (sign_entry t a d n) z)
          (r (record { number = e.number; below = omega arith; row = e.row; column = e.column; digit = e.digit }))

  signs-only : (n : ℕ) → T (member (signs_below t a d n) z) → Entry n
  unfolding signs_below
  signs-only zero h = absurd (subst T (member-empty z) h)
  signs-only (suc n) h =
      ⊎_elim (λ k. later (signs-only n k)) (λ k. here (entry-only n k))
      (T-or (member (signs_below t a d n) z) (member (sign_entry t a d n) z) (subst T (member-or (signs_below t a d n) (sign_entry t a d n) z) h))
    where
      later : Entry n → Entry (suc n)
      later e = let l : e.number < n = e.below in record { number = e.number; below = omega arith; row = e.row; column = e.column; digit = e.digit }

      here : T (member a (4 + n / 3) && member d (4 + n % 3)) × T (member (get_or t n 0) z) → Entry (suc n)
      here e =
          record {
            number = n;
            below = omega arith;
            row = T-fst (member a (4 + n / 3)) (member d (4 + n % 3)) e.0;
            column = T-snd (member a (4 + n / 3)) (member d (4 + n % 3)) e.0;
            digit = e.1;
          }

-- ---- signs are digits 4 to 6 of the first word

first-digit : (xs : List ℕ) (v : ℕ) → v < 32 → bit xs v ≡ member (get_or xs 0 0) v
first-digit xs v h = let e : v ≡ 32 * 0 + v = omega arith in ap (bit xs) e ∙ bit_at xs 0 v h

sign-range : (v : ℕ) → T (is_sign v) → (4 ≤ v) × (v ≤ 6)
unfolding is_sign
sign-range v h = (leb→le 4 v (T-fst (leb 4 v) (leb v 6) h), leb→le v 6 (T-snd (leb 4 v) (leb v 6) h))

range-sign : (v : ℕ) → 4 ≤ v → v ≤ 6 → T (is_sign v)
unfolding is_sign
range-sign v h k = T_and (leb 4 v) (leb v 6) (le→leb 4 v h) (le→leb v 6 k)

module _ (t : List (List ℕ)) (x y z : ℕ) where
  by_in : T (is_sign x) → T (is_sign y) → Memᴰ z (get_or t (sign_place x y) []) → Memᴰ z (by_signs t x y)
  unfolding by_signs
  by_in h k m = go (is_sign x && is_sign y) (T_and (is_sign x) (is_sign y) h k)
    where
      go : (b : Bool) → T b → Memᴰ z (elim b [ true ↦ get_or t (sign_place x y) [] | false ↦ [] ])
      go true s = m
      go false s = absurd s

  by_only : Memᴰ z (by_signs t x y) → T (is_sign x && is_sign y) × Memᴰ z (get_or t (sign_place x y) [])
  unfolding by_signs
  by_only m = go (is_sign x && is_sign y) m
    where
      go : (b : Bool) → Memᴰ z (elim b [ true ↦ get_or t (sign_place x y) [] | false ↦ [] ]) → T b × Memᴰ z (get_or t (sign_place x y) [])
      go true n = (tt, n)
      go false n = absurd (mathlib.Core.List.Memᴰ.not-nil n)

-- ---- an operation by a table of signs

module _ (c : Code) (o : Operation) (t : List (List ℕ)) (is : (x y : ℕ) → results c o x y ≡ by_signs t x y) (xs ys : List ℕ) where
  table-entry : (k : ℕ) → get_or (map marks t) k 0 ≡ marks (get_or t k [])
  unfolding marks
  table-entry k = get_or-map marks t k []

  entry_gives : (z : ℕ) → Entry (map marks t) (get_or xs 0 0) (get_or ys 0 0) z 9 → Gives c o (bit xs) (bit ys) z
  unfolding sign_place
  entry_gives z e =
      let k : ℕ = e.number in
      let l : k < 9 = e.below in
      let h : sign_place (4 + k / 3) (4 + k % 3) ≡ k = omega arith in
      record {
        first = 4 + k / 3;
        second = 4 + k % 3;
        first_plain = omega arith;
        second_plain = omega arith;
        in-first = subst T (sym (first-digit xs (4 + k / 3) (omega arith))) e.row;
        in-second = subst T (sym (first-digit ys (4 + k % 3) (omega arith))) e.column;
        result =
            subst (λ (zs : List ℕ). Memᴰ z zs) (sym (is (4 + k / 3) (4 + k % 3)))
            (by_in t (4 + k / 3) (4 + k % 3) z (range-sign (4 + k / 3) (omega arith) (omega arith)) (range-sign (4 + k % 3) (omega arith) (omega arith))
            (subst (λ (n : ℕ). Memᴰ z (get_or t n [])) (sym h)
            (marks-only (get_or t k []) z (subst (λ (m : ℕ). T (member m z)) (table-entry k) e.digit))));
      }

  gives-entry : (z : ℕ) → Gives c o (bit xs) (bit ys) z → Entry (map marks t) (get_or xs 0 0) (get_or ys 0 0) z 9
  unfolding sign_place
  gives-entry z g =
      let x : ℕ = g.first in
      let y : ℕ = g.second in
      let m : T (is_sign x && is_sign y) × Memᴰ z (get_or t (sign_place x y) []) =
      by_only t x y z (subst (λ (zs : List ℕ). Memᴰ z zs) (is x y) g.result)
      in
      let i : (4 ≤ x) × (x ≤ 6) = sign-range x (T-fst (is_sign x) (is_sign y) m.0) in
      let j : (4 ≤ y) × (y ≤ 6) = sign-range y (T-snd (is_sign x) (is_sign y) m.0) in
      let r : x ≡ 4 + sign_place x y / 3 = omega arith in
      let s : y ≡ 4 + sign_place x y % 3 = omega arith in
      record {
        number = sign_place x y;
        below = omega arith;
        row = subst (λ (v : ℕ). T (member (get_or xs 0 0) v)) r (subst T (first-digit xs x (omega arith)) g.in-first);
        column = subst (λ (v : ℕ). T (member (get_or ys 0 0) v)) s (subst T (first-digit ys y (omega arith)) g.in-second);
        digit = subst (λ (n : ℕ). T (member n z)) (sym (table-entry (sign_place x y))) (marks-has (get_or t (sign_place x y) []) z m.1);
      }

  by-table : result_mask c o xs ys ≡ signs_below (map marks t) (get_or xs 0 0) (get_or ys 0 0) 9
  by-table =
      results-are c o xs ys (signs_below (map marks t) (get_or xs 0 0) (get_or ys 0 0) 9) (λ z h. entry_gives z (signs-only (map marks t) (get_or xs 0 0) (get_or ys 0 0) z 9 h))
      (λ z g. signs-in (map marks t) (get_or xs 0 0) (get_or ys 0 0) z 9 (gives-entry z g))

-- ---- add and less

pub sum-results : (c : Code) (xs ys : List ℕ) → result_mask c operations.Add xs ys ≡ signs_below sum_masks (get_or xs 0 0) (get_or ys 0 0) 9
unfolding results sum_signs sum_masks marks
sum-results c xs ys = by-table c operations.Add sum_signs (λ x y. refl) xs ys

pub less-results : (c : Code) (xs ys : List ℕ) → result_mask c operations.Less xs ys ≡ signs_below less_masks (get_or xs 0 0) (get_or ys 0 0) 9
unfolding results less_signs less_masks marks
less-results c xs ys = by-table c operations.Less less_signs (λ x y. refl) xs ys
