-- Laws of tests as types, and of the binary digits of a word: `member s i` is digit i of s.
use Prim.Native.Nat.{ℕ, zero, suc, ◌/◌, ◌%◌, ◌^◌, ◌<◌}
use mathlib.Core.Path.{◌≡◌, refl, sym, ap, ◌∙◌, subst}
use mathlib.Core.Bool.{Bool, true, false, ◌||◌}
use native.Mathlib.Nat.{pow-suc, mul-div_cancel, mul-mod_left}
use native.Mathlib.Decide.{dec_lt}
use native.Mathlib.Numerals.{add-one}
use native.Mathlib.Omega.{arith}
use lib.Dec.{T, lit<}
use lib.Bits.{bit_or}
use lib.Pow.{field, mod-mod-pow}
use Rattle.permset.specs.Sets.{member, union}
pub use Rattle.permset.proofs.Laws.{T-or, T-or-left, T-or-right, T_and, T-fst, T-snd}
use Rattle.permset.proofs.Laws.{member-zero, member-suc, member-empty, member_union, member-beyond}

-- ---- tests as types

pub T_true : (a : Bool) → T a → a ≡ true
T_true true h = refl
T_true false h = absurd h

-- ---- one digit, and the digits of two words or-ed

pub member-or : (a b i : ℕ) → member (bit_or a b) i ≡ (member a i || member b i)
unfolding union
member-or a b i = member_union a b i

half_pow : (j : ℕ) → 2 ^ suc j / 2 ≡ 2 ^ j
half_pow j = ap (λ (x : ℕ). x / 2) (pow-suc 2 j) ∙ mul-div_cancel (2 ^ j) (lit< tt)

even-pow : (j : ℕ) → 2 ^ suc j % 2 ≡ zero
even-pow j = ap (λ (x : ℕ). x % 2) (pow-suc 2 j) ∙ mul-mod_left (2 ^ j) 2

pub member-single : (j : ℕ) → T (member (2 ^ j) j)
member-single zero = rw member-zero tt
member-single (suc j) = rw (member-suc, half_pow) (member-single j)

pub member-single-only : (j i : ℕ) → T (member (2 ^ j) i) → j ≡ i
member-single-only zero zero h = refl
member-single-only zero (suc i) h = absurd (rw (member-suc, member-empty) at h)
member-single-only (suc j) zero h = absurd (rw (member-zero, even-pow) at h)
member-single-only (suc j) (suc i) h = ap suc (member-single-only j i (rw (member-suc, half_pow) at h))

-- ---- the low digits

low_half : (s n : ℕ) → s % 2 ^ suc n / 2 ≡ s / 2 % 2 ^ n
low_half s n = ap (λ (k : ℕ). s % 2 ^ k / 2) (sym (add-one n)) ∙ field s n 1

low-low : (s n : ℕ) → s % 2 ^ suc n % 2 ≡ s % 2
low-low s n = ap (λ (k : ℕ). s % 2 ^ k % 2) (sym (add-one n)) ∙ mod-mod-pow s n 1

pub member-low : (s n i : ℕ) → i < n → member (s % 2 ^ n) i ≡ member s i
member-low s zero i h = absurd (omega arith)
member-low s (suc n) zero h = rw (member-zero (s % 2 ^ suc n), member-zero s, low-low)
member-low s (suc n) (suc i) h = rw (member-suc (s % 2 ^ suc n), member-suc s, low_half) (member-low (s / 2) n i (omega arith))

-- a number of n digits has none from n on
pub member-lt : (n s i : ℕ) → s < 2 ^ n → T (member s i) → i < n
member-lt n s i h m = go (dec_lt i n)
  where
    go : Dec (i < n) → i < n
    go (yes l) = l
    go (no l) = absurd (subst T (member-beyond n s i h (omega arith)) m)
