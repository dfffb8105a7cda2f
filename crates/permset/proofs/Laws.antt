-- Laws of permission sets, member by member and for every index. `T (member s i)` says that i is in s.
use mathlib.Core.Path.{◌≡◌, refl, sym, ap, ap₂, ◌∙◌, subst}
use mathlib.Core.Logic.{◌⊎◌, inl, inr, ⊎_elim}
use mathlib.Core.Bool.{Bool, true, false, not, ◌&&◌, ◌||◌, true≢false, false≢true}
use Prim.Native.Nat.{ℕ, zero, suc, ◌+◌, ◌-◌, ◌/◌, ◌%◌, ◌^◌, ◌≤◌, ◌<◌, suc-le-suc, min, max}
use native.Mathlib.Nat.{pow-suc, zero-div, le_trans, le_antisymm, lt_of_le_of_lt, le_of_suc-le-suc, not-suc-le-zero}
use native.Mathlib.Decide.{dec_lt}
use native.Mathlib.Omega.{arith}
use lib.Dec.{T, eqb, eqb→eq, eqb_refl}
use lib.Arith.{lt-one}
use lib.Bits.{bit_and, bit_or, and_shr, or_shr, and_step, or_step, and_le_l, and_le_r, and_self, or_lt}
use lib.Pow.{shr-shr, shr_lt, pow_mono, pow_pos}
use lib.Count.{count_trailing_zeros, under, trailing_of_zero}
use Rattle.permset.specs.Sets.{member, union, difference, within, lowest}

-- ---- one digit

digit : ℕ → ℕ → ℕ
digit s i = s / 2 ^ i % 2

-- digit i + 1 of s is digit i of s without its lowest
digit-suc : (s i : ℕ) → digit s (suc i) ≡ digit (s / 2) i
unfolding digit
digit-suc s i =
    let e : suc i ≡ 1 + i = omega arith in
    ap (λ (x : ℕ). s / 2 ^ x % 2) e ∙ ap (λ (x : ℕ). x % 2) (sym (shr-shr s 1 i))

-- what holds of 0 and 1 holds of every digit, and the same of two
single : (P : ℕ → Type 0) → P 0 → P 1 → (d : ℕ) → d < 2 → P d
single P z o zero h = z
single P z o (suc zero) h = o
single P z o (suc (suc d)) h = let n : ⊥ = omega arith in absurd n

pair : (P : ℕ → ℕ → Type 0) → P 0 0 → P 0 1 → P 1 0 → P 1 1 → (a b : ℕ) → P (a % 2) (b % 2)
pair P p q r s a b =
    single (λ (d : ℕ). P d (b % 2)) (single (P 0) p q (b % 2) (omega arith)) (single (P 1) r s (b % 2) (omega arith)) (a % 2)
    (omega arith)

and-digit : (s t i : ℕ) → digit (bit_and s t) i ≡ min (digit s i) (digit t i)
unfolding digit
and-digit s t i =
    ap (λ (x : ℕ). x % 2) (and_shr s t i)
    ∙ (let e = and_step (s / 2 ^ i) (t / 2 ^ i) in omega arith)

or-digit : (s t i : ℕ) → digit (bit_or s t) i ≡ max (digit s i) (digit t i)
unfolding digit
or-digit s t i =
    ap (λ (x : ℕ). x % 2) (or_shr s t i)
    ∙ (let e = or_step (s / 2 ^ i) (t / 2 ^ i) in omega arith)

difference-step : (s t : ℕ) → difference s t ≡ difference (s / 2) (t / 2) + difference (s / 2) (t / 2) + (s % 2 - min (s % 2) (t % 2))
unfolding difference
difference-step s t = omega (arith, and_step s t, and_le_l (s / 2) (t / 2))

difference-digit : (s t i : ℕ) → digit (difference s t) i ≡ digit s i - min (digit s i) (digit t i)
unfolding digit
difference-digit s t zero = let e = difference-step s t in omega arith
difference-digit s t (suc i) =
    digit-suc (difference s t) i ∙ ap (λ (x : ℕ). digit x i) (let e = difference-step s t in omega arith)
    ∙ difference-digit (s / 2) (t / 2) i
    ∙ ap₂ (λ (x y : ℕ). x - min x y) (sym (digit-suc s i)) (sym (digit-suc t i))

-- ---- the members of each set

pub member-and : (s t i : ℕ) → member (bit_and s t) i ≡ member s i && member t i
unfolding member digit
member-and s t i =
    ap (λ (d : ℕ). eqb d 1) (and-digit s t i)
    ∙ pair (λ (d e : ℕ). eqb (min d e) 1 ≡ eqb d 1 && eqb e 1) refl refl refl refl (s / 2 ^ i) (t / 2 ^ i)

pub member_union : (s t i : ℕ) → member (union s t) i ≡ member s i || member t i
unfolding member digit union
member_union s t i =
    ap (λ (d : ℕ). eqb d 1) (or-digit s t i)
    ∙ pair (λ (d e : ℕ). eqb (max d e) 1 ≡ eqb d 1 || eqb e 1) refl refl refl refl (s / 2 ^ i) (t / 2 ^ i)

pub member-difference : (s t i : ℕ) → member (difference s t) i ≡ member s i && not (member t i)
unfolding member digit
member-difference s t i =
    ap (λ (d : ℕ). eqb d 1) (difference-digit s t i)
    ∙ pair (λ (d e : ℕ). eqb (d - min d e) 1 ≡ eqb d 1 && not (eqb e 1)) refl refl refl refl (s / 2 ^ i) (t / 2 ^ i)

pub member-empty : (i : ℕ) → member 0 i ≡ false
unfolding member
member-empty i = ap (λ (x : ℕ). eqb (x % 2) 1) (zero-div (2 ^ i))

-- a set below 2 ^ n has no member at n or beyond
pub member-beyond : (n s i : ℕ) → s < 2 ^ n → n ≤ i → member s i ≡ false
unfolding member
member-beyond n s i h l =
    let k : s / 2 ^ i < 2 ^ 0 = shr_lt 0 i (let e : 0 + i ≡ i = omega arith in rw e (le_trans h (pow_mono l))) in
    ap (λ (x : ℕ). eqb (x % 2) 1) (lt-one k)

-- ---- tests as types

pub T-or : (a b : Bool) → T (a || b) → T a ⊎ T b
T-or true b h = inl tt
T-or false b h = inr h

pub T-or-left : (a b : Bool) → T a → T (a || b)
T-or-left true b h = tt
T-or-left false b h = elim h [ ]

pub T-or-right : (a b : Bool) → T b → T (a || b)
T-or-right true b h = tt
T-or-right false b h = h

pub T-fst : (a b : Bool) → T (a && b) → T a
T-fst true b h = tt
T-fst false b h = elim h [ ]

pub T-snd : (a b : Bool) → T (a && b) → T b
T-snd true b h = h
T-snd false b h = elim h [ ]

pub T_and : (a b : Bool) → T a → T b → T (a && b)
T_and true b h k = k
T_and false b h k = elim h [ ]

and-implied : (a b : Bool) → (T a → T b) → (a && b) ≡ a
and-implied true true h = refl
and-implied true false h = absurd (h tt)
and-implied false b h = refl

not-out : (b : Bool) → T (not b) → T b → ⊥
not-out false h k = k
not-out true h k = elim h [ ]

out-not : (b : Bool) → (T b → ⊥) → T (not b)
out-not true h = h tt
out-not false h = tt

-- a member of the union is a member of one or the other
pub union-cases : (s t i : ℕ) → T (member (union s t) i) → T (member s i) ⊎ T (member t i)
union-cases s t i h = T-or (member s i) (member t i) (rw member_union at h)

pub in-union-left : (s t i : ℕ) → T (member s i) → T (member (union s t) i)
in-union-left s t i h = rw member_union (T-or-left (member s i) (member t i) h)

pub in-union-right : (s t i : ℕ) → T (member t i) → T (member (union s t) i)
in-union-right s t i h = rw member_union (T-or-right (member s i) (member t i) h)

-- a member of the difference is one of the first set and not of the second
pub difference-first : (s t i : ℕ) → T (member (difference s t) i) → T (member s i)
difference-first s t i h = T-fst (member s i) (not (member t i)) (rw member-difference at h)

pub difference-second : (s t i : ℕ) → T (member (difference s t) i) → T (member t i) → ⊥
difference-second s t i h = not-out (member t i) (T-snd (member s i) (not (member t i)) (rw member-difference at h))

pub in-difference : (s t i : ℕ) → T (member s i) → (T (member t i) → ⊥) → T (member (difference s t) i)
in-difference s t i h k = rw member-difference (T_and (member s i) (not (member t i)) h (out-not (member t i) k))

-- ---- sets with the same members are equal

-- the lowest digit, and the rest
pub member-zero : (s : ℕ) → member s 0 ≡ eqb (s % 2) 1
unfolding member
member-zero s = let e : s / 1 % 2 ≡ s % 2 = omega arith in ap (λ (d : ℕ). eqb d 1) e

pub member-suc : (s i : ℕ) → member s (suc i) ≡ member (s / 2) i
unfolding member digit
member-suc s i = ap (λ (d : ℕ). eqb d 1) (digit-suc s i)

same-digit : (s t : ℕ) → member s 0 ≡ member t 0 → s % 2 ≡ t % 2
same-digit s t e =
    pair (λ (d c : ℕ). eqb d 1 ≡ eqb c 1 → d ≡ c) (λ h. refl) (λ h. absurd (false≢true h)) (λ h. absurd (true≢false h)) (λ h. refl) s t
    (sym (member-zero s) ∙ e ∙ member-zero t)

half-below : (n s : ℕ) → s < 2 ^ suc n → s / 2 < 2 ^ n
half-below n s h = let e = pow-suc 2 n in omega arith

-- of two sets below 2 ^ n the members below n decide
pub same-below : (n s t : ℕ) → s < 2 ^ n → t < 2 ^ n → ((i : ℕ) → i < n → member s i ≡ member t i) → s ≡ t
same-below zero s t hs ht h = lt-one hs ∙ sym (lt-one ht)
same-below (suc n) s t hs ht h =
    let low : s % 2 ≡ t % 2 = same-digit s t (h 0 (omega arith)) in
    let high : s / 2 ≡ t / 2 =
    same-below n (s / 2) (t / 2) (half-below n s hs) (half-below n t ht)
    (λ i l. sym (member-suc s i) ∙ h (suc i) (suc-le-suc l) ∙ member-suc t i) in
    omega arith

below-pow : (n : ℕ) → n < 2 ^ n
below-pow zero = omega arith
below-pow (suc n) = let h = below-pow n in let e = pow-suc 2 n in omega arith

pub same-members : (s t : ℕ) → ((i : ℕ) → member s i ≡ member t i) → s ≡ t
same-members s t h =
    same-below (s + t) s t (le_trans (below-pow s) (pow_mono (omega arith))) (le_trans (below-pow t) (pow_mono (omega arith)))
    (λ i l. h i)

-- ---- inclusion

within-and : (s t : ℕ) → T (within s t) → bit_and s t ≡ s
unfolding within
within-and s t h = eqb→eq (bit_and s t) s h

and-within : (s t : ℕ) → bit_and s t ≡ s → T (within s t)
unfolding within
and-within s t e = rw e (eqb_refl s)

-- `within s t` exactly if every member of s is one of t
pub within-member : (s t i : ℕ) → T (within s t) → T (member s i) → T (member t i)
within-member s t i w h =
    T-snd (member s i) (member t i) (subst T (sym (ap (λ (x : ℕ). member x i) (within-and s t w)) ∙ member-and s t i) h)

pub member-within-below : (n s t : ℕ) → s < 2 ^ n → ((i : ℕ) → i < n → T (member s i) → T (member t i)) → T (within s t)
member-within-below n s t hs h =
    and-within s t
    (same-below n (bit_and s t) s (lt_of_le_of_lt (and_le_l s t) hs) hs
    (λ i l. member-and s t i ∙ and-implied (member s i) (member t i) (h i l)))

pub member-within : (s t : ℕ) → ((i : ℕ) → T (member s i) → T (member t i)) → T (within s t)
member-within s t h = member-within-below s s t (below-pow s) (λ i l. h i)

pub within-refl : (s : ℕ) → T (within s s)
within-refl s = and-within s s (and_self s)

pub within-trans : (s t u : ℕ) → T (within s t) → T (within t u) → T (within s u)
within-trans s t u h k = member-within s u (λ i m. within-member t u i k (within-member s t i h m))

pub within-le : (s t : ℕ) → T (within s t) → s ≤ t
within-le s t h = subst (λ (x : ℕ). x ≤ t) (within-and s t h) (and_le_r s t)

pub within-antisym : (s t : ℕ) → T (within s t) → T (within t s) → s ≡ t
within-antisym s t h k = le_antisymm (within-le s t h) (within-le t s k)

pub empty-within : (t : ℕ) → T (within 0 t)
empty-within t = and-within 0 t refl

pub within-empty : (s : ℕ) → T (within s 0) → s ≡ 0
within-empty s h = within-antisym s 0 h (empty-within s)

-- the union is the least set that both are within
pub within-union-left : (s t : ℕ) → T (within s (union s t))
within-union-left s t = member-within s (union s t) (in-union-left s t)

pub within-union-right : (s t : ℕ) → T (within t (union s t))
within-union-right s t = member-within t (union s t) (in-union-right s t)

pub union-within : (s t u : ℕ) → T (within s u) → T (within t u) → T (within (union s t) u)
union-within s t u h k =
    member-within (union s t) u (λ i m. ⊎_elim (within-member s u i h) (within-member t u i k) (union-cases s t i m))

pub union-mono : (s s' t t' : ℕ) → T (within s s') → T (within t t') → T (within (union s t) (union s' t'))
union-mono s s' t t' h k =
    union-within s t (union s' t') (within-trans s s' (union s' t') h (within-union-left s' t'))
    (within-trans t t' (union s' t') k (within-union-right s' t'))

-- t changes nothing in a union exactly if it is within the other
pub union-absorbs : (s t : ℕ) → T (within t s) → union s t ≡ s
union-absorbs s t h = within-antisym (union s t) s (union-within s t s (within-refl s) h) (within-union-left s t)

pub absorbed-within : (s t : ℕ) → union s t ≡ s → T (within t s)
absorbed-within s t e = subst (λ (x : ℕ). T (within t x)) e (within-union-right s t)

pub difference-within : (s t : ℕ) → T (within (difference s t) s)
difference-within s t = member-within (difference s t) s (difference-first s t)

-- a set is within another exactly if their difference is empty
pub within-difference : (s t : ℕ) → T (within s t) → difference s t ≡ 0
within-difference s t h =
    within-empty (difference s t)
    (member-within (difference s t) 0
    (λ i m. absurd (difference-second s t i m (within-member s t i h (difference-first s t i m)))))

pub empty-difference : (s t : ℕ) → difference s t ≡ 0 → T (within s t)
unfolding difference
empty-difference s t e = and-within s t (omega (arith, and_le_l s t))

-- ---- bounds

pub union-lt : (n s t : ℕ) → s < 2 ^ n → t < 2 ^ n → union s t < 2 ^ n
unfolding union
union-lt n s t hs ht = or_lt n s t hs ht

pub difference-lt : (n s t : ℕ) → s < 2 ^ n → difference s t < 2 ^ n
unfolding difference
difference-lt n s t hs = omega arith

pub within-lt : (n s t : ℕ) → T (within s t) → t < 2 ^ n → s < 2 ^ n
within-lt n s t h ht = lt_of_le_of_lt (within-le s t h) ht

-- ---- the lowest member, by the zeros below the lowest digit of k that is 1

pub trailing-member : (k s : ℕ) → count_trailing_zeros k s < k → T (member s (count_trailing_zeros k s))
unfolding count_trailing_zeros
trailing-member zero s h = absurd (not-suc-le-zero h)
trailing-member (suc k) s h = go (s % 2) refl (trailing-member k (s / 2)) h
  where
    go : (d : ℕ) → s % 2 ≡ d → (count_trailing_zeros k (s / 2) < k → T (member (s / 2) (count_trailing_zeros k (s / 2))))
        → under d (count_trailing_zeros k (s / 2)) < suc k → T (member s (under d (count_trailing_zeros k (s / 2))))
    go zero e ih l = rw member-suc (ih (le_of_suc-le-suc l))
    go (suc d) e ih l = let o : s % 2 ≡ 1 = omega arith in subst T (sym (member-zero s ∙ ap (λ (x : ℕ). eqb x 1) o)) tt

trailing_below : (k s i : ℕ) → i < count_trailing_zeros k s → member s i ≡ false
unfolding count_trailing_zeros
trailing_below zero s i h = absurd (not-suc-le-zero h)
trailing_below (suc k) s i h = go (s % 2) refl i (λ j. trailing_below k (s / 2) j) h
  where
    go : (d : ℕ) → s % 2 ≡ d → (j : ℕ) → ((m : ℕ) → m < count_trailing_zeros k (s / 2) → member (s / 2) m ≡ false)
        → j < under d (count_trailing_zeros k (s / 2)) → member s j ≡ false
    go zero e zero ih l = member-zero s ∙ ap (λ (x : ℕ). eqb x 1) e
    go zero e (suc j) ih l = member-suc s j ∙ ih j (le_of_suc-le-suc l)
    go (suc d) e j ih l = absurd (not-suc-le-zero l)

pub trailing-none : (k s : ℕ) → s < 2 ^ k → k ≤ count_trailing_zeros k s → s ≡ 0
trailing-none k s h l =
    same-below k s 0 h (pow_pos k) (λ i m. trailing_below k s i (le_trans m l) ∙ sym (member-empty i))

pub lowest-member : (s : ℕ) → lowest s < 32 → T (member s (lowest s))
unfolding lowest
lowest-member s h = trailing-member 32 s h

pub lowest-below : (s i : ℕ) → i < lowest s → member s i ≡ false
unfolding lowest
lowest-below s i h = trailing_below 32 s i h

pub lowest-empty : lowest 0 ≡ 32
unfolding lowest
lowest-empty = trailing_of_zero 32

pub lowest-none : (s : ℕ) → s < 2 ^ 32 → 32 ≤ lowest s → s ≡ 0
unfolding lowest
lowest-none s h l = trailing-none 32 s h l

-- of permissions, unless there are none, it is one of them
pub lowest-lt : (n s : ℕ) → n ≤ 32 → s < 2 ^ n → (s ≡ 0 → ⊥) → lowest s < n
lowest-lt n s hn h ne = go (dec_lt (lowest s) n)
  where
    go : Dec (lowest s < n) → lowest s < n
    go (yes l) = l
    go (no f) =
        absurd
        (ne (same-below n s 0 h (pow_pos n)
        (λ i m. lowest-below s i (omega (arith, f)) ∙ sym (member-empty i))))
