-- `results::sign_result` meets its contract: antt computes that the formula gives each of the nine entries, and each way through the code is
-- one of the formula's cases. Assumes nothing.
use mathlib.Core.Path.{◌≡◌, sym, ap, ◌∙◌}
use mathlib.Core.Bool.{Bool, true, false}
use Prim.Native.Nat.{ℕ, ◌*◌, ◌/◌, ◌%◌, ◌^◌, ◌≤◌, ◌<◌}
use lib.Dec.{eqb, ltb, eqb→eq}
use lib.ListN.{get_or}
use borrow.Author.Tests.{eq-eqb, ne_eqb, lt-ltb, le-ltb}
use Rattle.table.proofs.Constants.{at}
use Rattle.calculus.proofs.SignResults.{sum_masks, less_masks}
use Rattle.results.specs.Signs.{sign_table}
use Rattle.results.proofs.sign_result.Goals as goal

-- the bit of a sign, as the code shifts it
abbrev sign_bit : ℕ → ℕ
sign_bit x = 16 * 2 ^ x % 2 ^ 32

-- the code's cases
abbrev formula : Bool → (x y : ℕ) → ℕ
formula true x y =
    elim (eqb x y) [
      | true ↦ sign_bit x
      | false ↦ elim (eqb x 1) [ true ↦ sign_bit y | false ↦ elim (eqb y 1) [ true ↦ sign_bit x | false ↦ 112 ] ]
    ]
formula false x y =
    elim (eqb x y) [ true ↦ elim (eqb x 1) [ true ↦ 8 | false ↦ 12 ] | false ↦ elim (ltb x y) [ true ↦ 4 | false ↦ 8 ] ]

entries : (sum : Bool) (i : ℕ) → i < 9 → formula sum (i / 3) (i % 3) ≡ get_or (sign_table sum) i 0
unfolding sign_table sum_masks less_masks
entries true i h = sym (eqb→eq _ _ (at (λ (k m : ℕ). eqb m (formula true (k / 3) (k % 3))) sum_masks tt i h))
entries false i h = sym (eqb→eq _ _ (at (λ (k m : ℕ). eqb m (formula false (k / 3) (k % 3))) less_masks tt i h))

entry : (sum b : Bool) (i : ℕ) → i < 9 → sum ≡ b → formula b (i / 3) (i % 3) ≡ get_or (sign_table sum) i 0
entry sum b i h e = ap (λ (s : Bool). formula s (i / 3) (i % 3)) (sym e) ∙ entries sum i h

module _ (x y : ℕ) where
  stays : x ≡ y → sign_bit x ≡ formula true x y
  stays e = rw (eq-eqb x y e, formula)

  ordered : (x ≡ y → ⊥) → x < y → 4 ≡ formula false x y
  ordered n l = rw (ne_eqb x y n, lt-ltb x y l, formula)

  turned : (x ≡ y → ⊥) → y ≤ x → 8 ≡ formula false x y
  turned n l = rw (ne_eqb x y n, le-ltb x y l, formula)

  zeros : x ≡ y → x ≡ 1 → 8 ≡ formula false x y
  zeros e z = rw (eq-eqb x y e, eq-eqb x 1 z, formula)

  alike : x ≡ y → (x ≡ 1 → ⊥) → 12 ≡ formula false x y
  alike e n = rw (eq-eqb x y e, ne_eqb x 1 n, formula)

  module _ (n : x ≡ y → ⊥) where
    first-zero : x ≡ 1 → sign_bit y ≡ formula true x y
    first-zero z = rw (ne_eqb x y n, eq-eqb x 1 z, formula)

    second-zero : (x ≡ 1 → ⊥) → y ≡ 1 → sign_bit x ≡ formula true x y
    second-zero m z = rw (ne_eqb x y n, ne_eqb x 1 m, eq-eqb y 1 z, formula)

    opposite : (x ≡ 1 → ⊥) → (y ≡ 1 → ⊥) → 112 ≡ formula true x y
    opposite m k = rw (ne_eqb x y n, ne_eqb x 1 m, ne_eqb y 1 k, formula)

pub returns-then-x-y : goal.returns-then-x-y
returns-then-x-y c = stays _ _ c.if-x-y.true ∙ entry _ true _ c.requires c.if-sum.true

pub returns-then-x-eq1 : goal.returns-then-x-eq1
returns-then-x-eq1 c =
    first-zero _ _ c.if-x-y.false c.if-x-eq1.true ∙ entry _ true _ c.requires c.if-sum.true

pub returns-then-y-eq1 : goal.returns-then-y-eq1
returns-then-y-eq1 c =
    second-zero _ _ c.if-x-y.false c.if-x-eq1.false c.if-y-eq1.true
    ∙ entry _ true _ c.requires c.if-sum.true

pub returns-else-y-eq1 : goal.returns-else-y-eq1
returns-else-y-eq1 c =
    opposite _ _ c.if-x-y.false c.if-x-eq1.false c.if-y-eq1.false
    ∙ entry _ true _ c.requires c.if-sum.true

pub returns-then-x-eq1-2 : goal.returns-then-x-eq1-2
returns-then-x-eq1-2 c = zeros _ _ c.if-x-y-2.true c.if-x-eq1-2.true ∙ entry _ false _ c.requires c.if-sum.false

pub returns-else-x-eq1-2 : goal.returns-else-x-eq1-2
returns-else-x-eq1-2 c = alike _ _ c.if-x-y-2.true c.if-x-eq1-2.false ∙ entry _ false _ c.requires c.if-sum.false

pub returns-then-x-y-3 : goal.returns-then-x-y-3
returns-then-x-y-3 c = ordered _ _ c.if-x-y-2.false c.if-x-y-3.true ∙ entry _ false _ c.requires c.if-sum.false

pub returns-else-x-y-3 : goal.returns-else-x-y-3
returns-else-x-y-3 c = turned _ _ c.if-x-y-2.false c.if-x-y-3.false ∙ entry _ false _ c.requires c.if-sum.false
