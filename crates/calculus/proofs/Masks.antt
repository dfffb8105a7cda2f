-- Lists of 32-bit words as masks: two lists and-ed word by word, whether a list has a digit, and the masks that rules use.
use Prim.Native.Nat.{ℕ, zero, suc, ◌+◌, ◌*◌, ◌/◌, ◌%◌, ◌<◌}
use mathlib.Core.Path.{◌≡◌, refl, sym, ap, ◌∙◌, subst}
use mathlib.Core.List.{List, [], ◌∷◌}
use mathlib.Core.Bool.{Bool, true, false, not, ◌&&◌}
use native.Mathlib.Nat.{lt_of_le_of_lt}
use native.Mathlib.Decide.{dec_lt, ℕ_discrete}
use native.Mathlib.Omega.{arith}
use lib.Dec.{T, eqb, leb, ltb, eqb→eq, ltb→lt}
use lib.Bits.{bit_and, and_le_r, and_zero_l, and_zero_r}
use lib.ListN.{get_or}
use Rattle.permset.specs.Sets.{member, lowest}
use Rattle.permset.proofs.Laws.{member-empty, member-and, lowest-lt, lowest-member}
use Rattle.calculus.specs.Elements.{is_string}
use Rattle.calculus.specs.Layout.{masked, bit, Words}
unfoldable pub use Rattle.calculus.specs.ResultWords.{nonzero}
use Rattle.calculus.proofs.Digits.{T-fst, T-snd}
use Rattle.calculus.proofs.Slices.{bit_at, bit-short}

-- ---- Booleans

pub bool-ext : (a b : Bool) → (T a → T b) → (T b → T a) → a ≡ b
bool-ext true true f g = refl
bool-ext true false f g = absurd (f tt)
bool-ext false true f g = absurd (g tt)
bool-ext false false f g = refl

pub T_false : (b : Bool) → (T b → ⊥) → b ≡ false
T_false true h = absurd (h tt)
T_false false h = refl

unfoldable pub alike : Bool → Bool → Bool
alike true b = b
alike false b = not b

alike-eq : (a b : Bool) → T (alike a b) → a ≡ b
unfolding alike
alike-eq true true h = refl
alike-eq true false h = absurd h
alike-eq false true h = absurd h
alike-eq false false h = refl

-- two tests agree below n
unfoldable pub agree : ℕ → (ℕ → Bool) → (ℕ → Bool) → Bool
unfolding alike
agree zero f g = true
agree (suc n) f g = alike (f n) (g n) && agree n f g

pub agree-below : (n : ℕ) (f g : ℕ → Bool) → T (agree n f g) → (v : ℕ) → v < n → f v ≡ g v
unfolding agree
agree-below zero f g h v l = absurd (omega arith)
agree-below (suc n) f g h v l =
    go (agree-below n f g (T-snd (alike (f n) (g n)) (agree n f g) h) v) (ℕ_discrete v n)
  where
    go : (v < n → f v ≡ g v) → Dec (v ≡ n) → f v ≡ g v
    go r (yes e) = rw e (alike-eq (f n) (g n) (T-fst (alike (f n) (g n)) (agree n f g) h))
    go r (no e) = r (omega arith)

-- ---- two lists of words and-ed

pub get_or-masked : (xs ys : List ℕ) (k : ℕ) → get_or (masked xs ys) k 0 ≡ bit_and (get_or xs k 0) (get_or ys k 0)
unfolding masked
get_or-masked [] ys k = sym (and_zero_l (get_or ys k 0))
get_or-masked (x ∷ xs) [] k = sym (and_zero_r (get_or (x ∷ xs) k 0))
get_or-masked (x ∷ xs) (y ∷ ys) zero = refl
get_or-masked (x ∷ xs) (y ∷ ys) (suc k) = get_or-masked xs ys k

pub bit_masked : (xs ys : List ℕ) (n : ℕ) → bit (masked xs ys) n ≡ bit xs n && bit ys n
unfolding bit
bit_masked xs ys n =
    ap (λ (x : ℕ). member x (n % 32)) (get_or-masked xs ys (n / 32)) ∙ member-and (get_or xs (n / 32) 0) (get_or ys (n / 32) 0) (n % 32)

pub masked-words : (xs ys : List ℕ) → Words ys → Words (masked xs ys)
masked-words xs ys h k = rw (get_or-masked xs ys k) (lt_of_le_of_lt (and_le_r (get_or xs k 0) (get_or ys k 0)) (h k))

-- a word that is not 0 has a digit
pub digit-word : (xs : List ℕ) (n : ℕ) → T (bit xs n) → get_or xs (n / 32) 0 ≡ 0 → ⊥
unfolding bit
digit-word xs n h z = subst T (ap (λ (x : ℕ). member x (n % 32)) z ∙ member-empty (n % 32)) h

pub word-digit : (xs : List ℕ) → Words xs → (k : ℕ) → (get_or xs k 0 ≡ 0 → ⊥) → (n : ℕ) × T (bit xs n)
word-digit xs w k h =
    let l : lowest (get_or xs k 0) < 32 = lowest-lt 32 (get_or xs k 0) (omega arith) (w k) h in
    (32 * k + lowest (get_or xs k 0), subst T (sym (bit_at xs k (lowest (get_or xs k 0)) l)) (lowest-member (get_or xs k 0) l))

nonzero-at : (xs : List ℕ) (k : ℕ) → (get_or xs k 0 ≡ 0 → ⊥) → T (nonzero xs)
unfolding nonzero
nonzero-at [] k h = absurd (h refl)
nonzero-at (x ∷ xs) zero h = go (eqb x 0) refl
  where
    go : (b : Bool) → eqb x 0 ≡ b → T (elim b [ true ↦ nonzero xs | false ↦ true ])
    go true e = absurd (h (eqb→eq x 0 (rw e tt)))
    go false e = tt
nonzero-at (x ∷ xs) (suc k) h = go (eqb x 0) (nonzero-at xs k h)
  where
    go : (b : Bool) → T (nonzero xs) → T (elim b [ true ↦ nonzero xs | false ↦ true ])
    go true t = t
    go false t = tt

nonzero-word : (xs : List ℕ) → T (nonzero xs) → (k : ℕ) × (get_or xs k 0 ≡ 0 → ⊥)
unfolding nonzero
nonzero-word [] h = absurd h
nonzero-word (x ∷ xs) h = go (nonzero-word xs) (eqb x 0) refl h
  where
    go : (T (nonzero xs) → (k : ℕ) × (get_or xs k 0 ≡ 0 → ⊥)) → (b : Bool) → eqb x 0 ≡ b → T (elim b [ true ↦ nonzero xs | false ↦ true ])
        → (k : ℕ) × (get_or (x ∷ xs) k 0 ≡ 0 → ⊥)
    go r true e t = let y : (k : ℕ) × (get_or xs k 0 ≡ 0 → ⊥) = r t in (suc y.0, y.1)
    go r false e t = (zero, λ z. subst T (sym (ap (λ (y : ℕ). eqb y 0) z) ∙ e) tt)

pub digit-nonzero : (xs : List ℕ) (n : ℕ) → T (bit xs n) → T (nonzero xs)
digit-nonzero xs n h = nonzero-at xs (n / 32) (digit-word xs n h)

pub nonzero-digit : (xs : List ℕ) → Words xs → T (nonzero xs) → (n : ℕ) × T (bit xs n)
nonzero-digit xs w h = let x : (k : ℕ) × (get_or xs k 0 ≡ 0 → ⊥) = nonzero-word xs h in word-digit xs w x.0 x.1

-- ---- masks

pub string-mask : (v : ℕ) → bit (0xffffff00 ∷ []) v ≡ is_string v
unfolding agree bit member is_string
string-mask v = go (dec_lt v 32)
  where
    go : Dec (v < 32) → bit (0xffffff00 ∷ []) v ≡ is_string v
    go (yes l) = agree-below 32 (bit (0xffffff00 ∷ [])) is_string tt v l
    go (no l) =
        bool-ext (bit (0xffffff00 ∷ []) v) (is_string v) (λ h. absurd (l (omega (arith, bit-short (0xffffff00 ∷ []) v h))))
        (λ h. absurd (l (ltb→lt v 32 (T-snd (leb 8 v) (ltb v 32) h))))
