-- Whether a word has a stray digit, by a row of those that may be set.
use Prim.Native.Nat.{ℕ, suc, ◌+◌, ◌*◌, ◌/◌, ◌%◌, ◌^◌, ◌≤◌, ◌<◌}
use mathlib.Core.Path.{◌≡◌, refl, sym, ap, ap₂, ◌∙◌, subst}
use mathlib.Core.Bool.{Bool, true, false, not, ◌&&◌, ◌||◌}
use mathlib.Core.List.{List}
use native.Mathlib.Nat.{mul_left_comm}
use native.Mathlib.Omega.{arith}
use borrow.Author.Tests.{lt-ltb, le-ltb, lt-leb, le-leb}
use lib.Arith.{digits_lt, digits_div, digits_mod}
use lib.Dec.{T, ltb, lit<}
use lib.ListN.{length, get_or}
use Rattle.permset.specs.Sets.{width, member, within}
use Rattle.permset.proofs.Laws.{within-member, member-within-below, within-lt}
use Rattle.table.specs.Code.{Code}
use Rattle.calculus.specs.Elements.{elements}
use Rattle.calculus.specs.Layout.{row_words, used}
use Rattle.calculus.specs.Estimate.{any_from}
use Rattle.calculus.proofs.Digits.{T_and, T-fst, T-snd, T_true, member-lt}
use Rattle.calculus.proofs.Slices.{bit_at}
use Rattle.calculus.proofs.Masks.{bool-ext, T_false, agree, agree-below}
use Rattle.calculus.proofs.Firing.{any-has, any_found}
use Rattle.stray.specs.Stray.{holding, holds, row_digits, proper, stray}
use Rattle.stray.specs.Allowed.{Allowed}

pub not-both : (b : Bool) → T (not b) → T b → ⊥
not-both true h k = h
not-both false h k = k

pub is-not : (b : Bool) → (T b → ⊥) → T (not b)
is-not true h = h tt
is-not false h = tt

pub has : (b : Bool) → (T (not b) → ⊥) → T b
has true n = tt
has false n = n tt

module _ (c : Code) where
  -- ---- a word whose digits that may be set are those of a number

  module _ (k w m : ℕ) (h : w < 2 ^ 32) (e : (d : ℕ) → d < 32 → proper c (32 * k + d) ≡ member m d) where
    abbrev outside : ℕ → Bool
    outside d = member w d && not (proper c (32 * k + d))

    pub stray-within : not (stray c k w) ≡ within w m
    unfolding stray
    stray-within =
        bool-ext (not (any_from 32 0 outside)) (within w m)
        (λ t. member-within-below 32 w m h (λ d l i. subst T (e d l) (has (proper c (32 * k + d)) (λ n.
        not-both (any_from 32 0 outside) t (any-has 32 0 outside d (omega arith) (omega arith) (T_and (member w d) (not (proper c (32 * k + d))) i n))))))
        (λ t. is-not (any_from 32 0 outside) (λ i. let x = any_found 32 0 outside i in
        let j : T (member w x.0) = T-fst (member w x.0) (not (proper c (32 * k + x.0))) x.1 in
        not-both (proper c (32 * k + x.0)) (T-snd (member w x.0) (not (proper c (32 * k + x.0))) x.1)
        (subst T (sym (e x.0 (member-lt 32 w x.0 h j))) (within-member w m x.0 t j))))

  -- ---- the rows

  abbrev digits : ℕ
  digits = 32 * row_words c

  module _ (r i : ℕ) (hr : r < 2 * c.size) (hi : i < row_words c) where
    row-proper : (d : ℕ) → d < 32 → proper c (32 * (r * row_words c + i) + d) ≡ (ltb (32 * i + d) (elements c) && holds c (holding c r) (32 * i + d))
    unfolding proper used
    row-proper d h =
        let n = 32 * (r * row_words c + i) + d in
        let v = 32 * i + d in
        let s : v < digits = omega arith in
        let a : 32 * (r * row_words c) ≡ r * digits = mul_left_comm 32 r (row_words c) in
        let p : n ≡ r * digits + v = omega arith in
        let x : n / digits ≡ r = ap (λ (z : ℕ). z / digits) p ∙ digits_div r {m = digits} {r = v} s in
        let y : n % digits ≡ v = ap (λ (z : ℕ). z % digits) p ∙ digits_mod r {m = digits} {r = v} s in
        let b : 2 * c.size * digits ≡ row_digits c = sym (mul_left_comm 32 (2 * c.size) (row_words c)) in
        let z : r * digits + v < 2 * c.size * digits = digits_lt hr s in
        let l : n < row_digits c = omega arith in
        ap₂ (λ (u w : Bool). (u && ltb (n % digits) (elements c) || w && ltb (n % 32) (suc width)) && (w || holds c (holding c (n / digits)) (n % digits)))
        (lt-ltb n (row_digits c) l) (lt-leb (row_digits c) n l)
        ∙ or-false (ltb (n % digits) (elements c)) _
        ∙ ap₂ (λ (u w : ℕ). ltb w (elements c) && holds c (holding c u) w) x y
      where
        or-false : (u w : Bool) → ((u || false) && w) ≡ (u && w)
        or-false true w = refl
        or-false false w = refl

    -- the word i of row r has no stray digit exactly if it lies within the word i of a row of those that may be set
    pub row-clean : (w : ℕ) (m : List ℕ) → w < 2 ^ 32 → row_words c ≤ length m → Allowed c (holding c r) (elements c) m
        → not (stray c (r * row_words c + i) w) ≡ within w (get_or m i 0)
    row-clean w m h l a =
        stray-within (r * row_words c + i) w (get_or m i 0) h
        (λ d j. row-proper d j ∙ sym (a.digits (32 * i + d) (omega arith)) ∙ bit_at m i d j)

  -- ---- the words of permissions and flags

  module _ (k : ℕ) (hk : 2 * c.size * row_words c ≤ k) where
    flags-proper : (d : ℕ) → d < 32 → proper c (32 * k + d) ≡ member 33554431 d
    unfolding proper used member agree
    flags-proper d h =
        let n = 32 * k + d in
        let l : row_digits c ≤ n = omega arith in
        let e : n % 32 ≡ d = omega arith in
        ap₂ (λ (u w : Bool). (u && ltb (n % digits) (elements c) || w && ltb (n % 32) (suc width)) && (w || holds c (holding c (n / digits)) (n % digits)))
        (le-ltb n (row_digits c) l) (le-leb (row_digits c) n l)
        ∙ and-true (ltb (n % 32) (suc width))
        ∙ ap (λ (x : ℕ). ltb x 25) e
        ∙ agree-below 32 (λ x. ltb x 25) (member 33554431) tt d h
      where
        and-true : (b : Bool) → (b && true) ≡ b
        and-true true = refl
        and-true false = refl

    flags-within : (w : ℕ) → w < 2 ^ 32 → not (stray c k w) ≡ within w 33554431
    flags-within w h = stray-within k w 33554431 h flags-proper

    pub flags-clean : (w : ℕ) → w < 2 ^ 32 → w < 33554432 → not (stray c k w) ≡ true
    unfolding member agree
    flags-clean w h l =
        flags-within w h
        ∙ T_true (within w 33554431) (member-within-below 25 w 33554431 l (λ i j t. subst T (sym (agree-below 25 (member 33554431) (λ v. true) tt i j)) tt))

    pub flags-stray : (w : ℕ) → w < 2 ^ 32 → 33554432 ≤ w → not (stray c k w) ≡ false
    flags-stray w h l =
        flags-within w h ∙ T_false (within w 33554431) (λ t. let z : w < 33554432 = within-lt 25 w 33554431 t (lit< tt) in omega arith)
