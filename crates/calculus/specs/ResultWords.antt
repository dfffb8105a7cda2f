-- The results of operations as words of digits, in the form that code computes: add and less from a table over the nine pairs of signs, equal from
-- the digits of two sides. A side is the words of a row that its plain elements fill, however many these are.
-- proofs/OperationResults.antt shows that they are the results of the flow rules.
use Rattle.std.specs.Prelude.{ℕ, zero, suc, ◌+◌, ◌/◌, ◌%◌, List, [], ◌∷◌, Bool, true, false, not, ◌&&◌, ◌||◌, eqb, ltb, get_or}
use Rattle.std.specs.Int.Bits.{bit_and, bit_or}
use Rattle.permset.specs.Sets.{member}
use Rattle.table.specs.declared.Operation.{Operation}
use Rattle.table.specs.declared.Operation.TheVariants as operations
use Rattle.calculus.specs.Layout.{masked}
use Rattle.calculus.specs.Estimate.{same, facts}

-- ---- add and less

-- entry k of a table where both rows have its signs: the first sign is that of its row, the second that of its column
unfoldable pub sign_entry : List ℕ → (a d k : ℕ) → ℕ
sign_entry t a d k = elim (member a (4 + k / 3) && member d (4 + k % 3)) [ true ↦ get_or t k 0 | false ↦ 0 ]

-- the or over the first n entries
unfoldable pub signs_below : List ℕ → (a d n : ℕ) → ℕ
unfolding sign_entry
signs_below t a d zero = 0
signs_below t a d (suc n) = bit_or (signs_below t a d n) (sign_entry t a d n)

unfoldable pub sum_masks : List ℕ
sum_masks = 16 ∷ 16 ∷ 112 ∷ 16 ∷ 32 ∷ 64 ∷ 112 ∷ 64 ∷ 64 ∷ []

unfoldable pub less_masks : List ℕ
less_masks = 12 ∷ 4 ∷ 4 ∷ 8 ∷ 8 ∷ 4 ∷ 8 ∷ 8 ∷ 12 ∷ []

-- ---- equal, of sides without the opponent's record: true where they share a digit; false where they share one that stands for more than one
-- value, differ, or have more than one digit

-- some word is not 0
unfoldable pub nonzero : List ℕ → Bool
nonzero [] = false
nonzero (x ∷ xs) = elim (eqb x 0) [ true ↦ nonzero xs | false ↦ true ]

-- a side without the opponent's record
unfoldable pub comparables : List ℕ → List ℕ
comparables [] = []
comparables (x ∷ xs) = bit_and x 0xffffff7f ∷ xs

-- truth where a digit is shared
unfoldable pub same_mask : (xs ys : List ℕ) → ℕ
unfolding nonzero masked
same_mask xs ys = elim (nonzero (masked xs ys)) [ true ↦ 4 | false ↦ 0 ]

-- two different values: from one shared element that stands for more than one, or from two elements
unfoldable pub apart : (xs ys : List ℕ) → Bool
unfolding nonzero masked same facts
apart xs ys = nonzero (masked (masked xs ys) (0x150 ∷ [])) || (not (same xs ys) || ltb 1 (facts xs))

-- falsehood where there are such
unfoldable pub apart_mask : (xs ys : List ℕ) → ℕ
unfolding apart
apart_mask xs ys = elim (apart xs ys) [ true ↦ 8 | false ↦ 0 ]

unfoldable pub equal_mask : (xs ys : List ℕ) → ℕ
unfolding nonzero same_mask apart_mask
equal_mask xs ys = elim (nonzero xs && nonzero ys) [ true ↦ bit_or (same_mask xs ys) (apart_mask xs ys) | false ↦ 0 ]

-- ---- an operation

-- on two sides; signs stand in their first words
unfoldable pub operation_mask : Operation → (xs ys : List ℕ) → ℕ
unfolding signs_below sum_masks less_masks comparables equal_mask
operation_mask operations.Add xs ys = signs_below sum_masks (get_or xs 0 0) (get_or ys 0 0) 9
operation_mask operations.Less xs ys = signs_below less_masks (get_or xs 0 0) (get_or ys 0 0) 9
operation_mask operations.Equal xs ys = equal_mask (comparables xs) (comparables ys)
