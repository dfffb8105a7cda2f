-- Laws of tests, and of sets as numbers: what two have in common, their union, and the lowest member.
use Prim.Native.Nat.{ℕ, ◌^◌, ◌<◌}
use mathlib.Core.Path.{◌≡◌, refl, sym, ◌∙◌, subst}
use mathlib.Core.Bool.{Bool, true, false, ◌&&◌, ◌||◌}
use native.Mathlib.Decide.{dec_lt}
use native.Mathlib.Omega.{arith}
use lib.Count.{count_trailing_zeros}
use lib.Dec.{T}
use lib.Bits.{bit_and}
use Rattle.permset.specs.Sets.{member, union}
use Rattle.permset.proofs.Digits.{T_and, T-fst, T-snd}
use Rattle.permset.proofs.Laws.{member-and, member_union, member-within, same-members, within-empty, trailing-member, trailing-none}

-- a second test after a first one r of a
pub both-tests : (a b r : Bool) → r ≡ a → r ≡ true → b ≡ (a && b)
both-tests true b r e t = refl
both-tests false b r e t = absurd (subst T (sym t ∙ e) tt)

pub first-test : (a b r : Bool) → r ≡ a → r ≡ false → r ≡ (a && b)
first-test true b r e f = absurd (subst T (sym e ∙ f) tt)
first-test false b r e f = f

-- ---- what two sets have in common

pub in_both : (s t i : ℕ) → T (member s i) → T (member t i) → T (member (bit_and s t) i)
in_both s t i h k = rw member-and (T_and (member s i) (member t i) h k)

pub both_left : (s t i : ℕ) → T (member (bit_and s t) i) → T (member s i)
both_left s t i h = T-fst (member s i) (member t i) (rw member-and at h)

pub both_right : (s t i : ℕ) → T (member (bit_and s t) i) → T (member t i)
both_right s t i h = T-snd (member s i) (member t i) (rw member-and at h)

-- a set without members is 0
pub no_member : (s : ℕ) → ((i : ℕ) → T (member s i) → ⊥) → s ≡ 0
no_member s h = within-empty s (member-within s 0 (λ i m. absurd (h i m)))

-- ---- the union, one set after the other

or_assoc : (a b c : Bool) → ((a || b) || c) ≡ (a || (b || c))
or_assoc true b c = refl
or_assoc false b c = refl

pub union_assoc : (s t u : ℕ) → union (union s t) u ≡ union s (union t u)
union_assoc s t u =
    same-members (union (union s t) u) (union s (union t u))
    (λ i. simp member_union (or_assoc (member s i) (member t i) (member u i)))

-- ---- the lowest member

pub lowest-in : (s : ℕ) → s < 2 ^ 64 → (s ≡ 0 → ⊥) → T (member s (count_trailing_zeros 64 s))
lowest-in s h f = go (dec_lt (count_trailing_zeros 64 s) 64)
  where
    go : Dec (count_trailing_zeros 64 s < 64) → T (member s (count_trailing_zeros 64 s))
    go (yes l) = trailing-member 64 s l
    go (no l) = absurd (f (trailing-none 64 s h (omega arith)))
