-- How many parts the terms of each kind have.
-- Assumes nothing.
use mathlib.Core.Path.{◌≡◌, refl, sym, ap, ◌∙◌, subst}
use mathlib.Core.Bool.{Bool}
use mathlib.Core.List.{[], map}
use Prim.Native.Nat.{ℕ, ◌-◌, ◌*◌, ◌/◌, ◌%◌, ◌^◌, ◌<◌, ◌≤◌}
use native.Mathlib.Decide.{dec_lt}
use native.Mathlib.Omega.{arith}
use lib.Dec.{eqb, leb, eqb→eq, leb→le}
use lib.ListN.{length, get_or, get_or-map, get_or-eq_default}
use Rattle.table.specs.Words.{kind, first_kind, parts_by_kind, parts, arity}
use Rattle.table.proofs.Constants.{at}

-- by the kind's place among those of terms
arity_at : (w : ℕ) → get_or (map length parts_by_kind) (kind w - first_kind) 0 ≡ arity w
unfolding arity parts
arity_at w = get_or-map length parts_by_kind (kind w - first_kind) []

past : (k : ℕ) → 21 ≤ k → get_or (map length parts_by_kind) k 0 ≡ 0
unfolding parts_by_kind
past k h = get_or-eq_default (map length parts_by_kind) 0 h

small : ℕ → ℕ → Bool
small k n = leb n 3

small_at : (k : ℕ) → Dec (k < 21) → get_or (map length parts_by_kind) k 0 ≤ 3
unfolding parts_by_kind small
small_at k (yes h) = leb→le _ 3 (at small (map length parts_by_kind) tt k h)
small_at k (no n) = subst (λ (m : ℕ). m ≤ 3) (sym (past k (omega arith))) (omega arith)

pub arity-small : (w : ℕ) → arity w ≤ 3
arity-small w = subst (λ (n : ℕ). n ≤ 3) (arity_at w) (small_at (kind w - first_kind) (dec_lt (kind w - first_kind) 21))

-- the code's number holds them, two bits for each kind
arities_right : ℕ → ℕ → Bool
arities_right k n = eqb (711768056832 / 2 ^ (2 * k) % 4) n

pub arity-packed : (w : ℕ) → kind w - first_kind < 21 → 711768056832 / 2 ^ (2 * (kind w - first_kind)) % 4 ≡ arity w
unfolding arities_right parts_by_kind
arity-packed w h =
    eqb→eq _ (get_or (map length parts_by_kind) (kind w - first_kind) 0) (at arities_right (map length parts_by_kind) tt (kind w - first_kind) h)
    ∙ arity_at w

pub arity-low : (w : ℕ) → kind w < 16 → 0 ≡ arity w
unfolding parts_by_kind
arity-low w h = let e : kind w - first_kind ≡ 0 = omega arith in ap (λ (k : ℕ). get_or (map length parts_by_kind) k 0) (sym e) ∙ arity_at w

pub arity-past : (w : ℕ) → 36 < kind w → 0 ≡ arity w
arity-past w h = sym (past (kind w - first_kind) (omega arith)) ∙ arity_at w
