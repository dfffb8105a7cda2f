-- What rows have in common, where, and what they lack of each other, computed.
use mathlib.Core.Path.{◌≡◌, refl}
use mathlib.Core.Bool.{true, false}
use mathlib.Core.List.{List, [], ◌∷◌}
use Prim.Native.Nat.{ℕ, zero, suc, ◌<◌}
use native.Mathlib.Omega.{arith}
use lib.Bits.{bit_and}
use lib.ListN.{get_or}
use Rattle.rows.specs.Rows.{NextCommon, meets, lacking}

-- 6 has the digits 1 and 2, 3 has 0 and 1
lacking-samples : (lacking (6 ∷ []) (3 ∷ []) ≡ true) × (lacking (2 ∷ []) (3 ∷ []) ≡ false)
unfolding lacking
lacking-samples = (refl, refl)

meets-samples : (meets (6 ∷ []) (3 ∷ []) ≡ true) × (meets (4 ∷ []) (3 ∷ []) ≡ false)
unfolding meets
meets-samples = (refl, refl)

-- 4 and 3 have nothing in common, 6 and 3 have the digit 1
abbrev left : List ℕ
left = 4 ∷ 6 ∷ 7 ∷ []

abbrev right : List ℕ
right = 3 ∷ 3 ∷ 7 ∷ []

next-sample : NextCommon left right 0 1
next-sample = record { later = omega arith; none = λ k h l. only k l; found = λ h e. omega arith; inside = omega arith }
  where
    only : (k : ℕ) → k < 1 → bit_and (get_or left k 0) (get_or right k 0) ≡ 0
    only zero l = refl
    only (suc k) l = absurd (omega arith)

no-other-next : (NextCommon left right 0 0 → ⊥) × (NextCommon left right 0 2 → ⊥)
no-other-next = (λ n. n.found (omega arith) refl, λ n. let e = n.none 1 (omega arith) (omega arith) in omega arith)
