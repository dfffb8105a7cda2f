-- Laws of lists of 32-bit words: their digits, and what or-ing words into them does.
use Prim.Native.Nat.{ℕ, zero, suc, ◌+◌, ◌-◌, ◌*◌, ◌/◌, ◌%◌, ◌^◌, ◌≤◌, ◌<◌}
use mathlib.Core.Path.{◌≡◌, refl, sym, ap, ap₂, ◌∙◌, subst}
use mathlib.Core.List.{List, [], ◌∷◌}
use mathlib.Core.Bool.{Bool, true, false, ◌||◌}
use mathlib.Core.Logic.{◌⊎◌, inl, inr, ⊎_elim}
use native.Mathlib.Nat.{mod-lt, sub-zero, suc-sub-suc}
use native.Mathlib.Decide.{dec_lt}
use native.Mathlib.Omega.{arith}
use lib.Dec.{T, lit<}
use lib.Bits.{bit_or, or_zero_r, or_lt}
use lib.Pow.{pow-lt}
use lib.ListN.{length, get_or, replicate, take, drop, length-take, get_or-eq_default}
use lib.Seq.{ext_get_or, get_or-take, get_or-drop}
use Rattle.permset.specs.Sets.{member}
use Rattle.permset.proofs.Laws.{member-empty, same-below}
use Rattle.calculus.specs.Layout.{bit, pour, mark, Words}
use Rattle.calculus.proofs.Digits.{T-or, T-or-left, T-or-right, member-or, member-single, member-single-only}

-- the digits of ws are among those of xs
abbrev pub ◌≼◌ : List ℕ → List ℕ → Type 0
ws ≼ xs = (n : ℕ) → T (bit ws n) → T (bit xs n)

infix 30 ◌≼◌
-- ---- digits by word

pos32 : zero < 32
pos32 = lit< tt

pub bit_at : (ws : List ℕ) (k i : ℕ) → i < 32 → bit ws (32 * k + i) ≡ member (get_or ws k 0) i
unfolding bit
bit_at ws k i h =
    let d : (32 * k + i) / 32 ≡ k = omega arith in
    let m : (32 * k + i) % 32 ≡ i = omega arith in
    ap₂ (λ (a b : ℕ). member (get_or ws a 0) b) d m

pub bit-short : (ws : List ℕ) (n : ℕ) → T (bit ws n) → n < 32 * length ws
unfolding bit
bit-short ws n h = go (dec_lt (n / 32) (length ws))
  where
    go : Dec (n / 32 < length ws) → n < 32 * length ws
    go (yes l) = omega arith
    go (no f) =
        let l : length ws ≤ n / 32 = omega arith in
        absurd (subst T (ap (λ (x : ℕ). member x (n % 32)) (get_or-eq_default ws 0 l) ∙ member-empty (n % 32)) h)

pub bit-zero : (m n : ℕ) → T (bit (replicate m 0) n) → ⊥
unfolding bit
bit-zero m n h = subst T (ap (λ (x : ℕ). member x (n % 32)) (zeros m (n / 32)) ∙ member-empty (n % 32)) h
  where
    zeros : (m k : ℕ) → ◌≡◌ {A = ℕ} (get_or (replicate m 0) k 0) 0
    zeros zero k = refl
    zeros (suc m) zero = refl
    zeros (suc m) (suc k) = zeros m k

-- lists of one length with the same digits are equal
pub words-ext : (ws xs : List ℕ) → length ws ≡ length xs → Words ws → Words xs → ws ≼ xs → xs ≼ ws → ws ≡ xs
words-ext ws xs e hw hx f g =
    ext_get_or 0 ws xs e
    (λ k h. same-below 32 (get_or ws k 0) (get_or xs k 0) (hw k) (hx k)
    (λ i l. both (member (get_or ws k 0) i) (member (get_or xs k 0) i)
    (λ t. subst T (bit_at xs k i l) (f (32 * k + i) (subst T (sym (bit_at ws k i l)) t)))
    (λ t. subst T (bit_at ws k i l) (g (32 * k + i) (subst T (sym (bit_at xs k i l)) t)))))
  where
    both : (a b : Bool) → (T a → T b) → (T b → T a) → a ≡ b
    both true true f g = refl
    both true false f g = absurd (f tt)
    both false true f g = absurd (g tt)
    both false false f g = refl

-- a part of words
pub part-words : (n at : ℕ) (ws : List ℕ) → Words ws → Words (take n (drop at ws))
part-words n at ws h k = go (dec_lt k n)
  where
    go : Dec (k < n) → get_or (take n (drop at ws)) k 0 < 2 ^ 32
    go (yes l) = rw (get_or-take n (drop at ws) k 0 l, get_or-drop at ws k 0) (h (at + k))
    go (no l) =
        let m : length (take n (drop at ws)) ≤ k = omega (arith, length-take n (drop at ws)) in
        rw (get_or-eq_default (take n (drop at ws)) 0 m) (lit< tt)

-- ---- words or-ed in

pub length-pour : (ws : List ℕ) (at : ℕ) (xs : List ℕ) → length (pour ws at xs) ≡ length ws
unfolding pour
length-pour [] at xs = refl
length-pour (w ∷ ws) zero [] = refl
length-pour (w ∷ ws) zero (x ∷ xs) = ap suc (length-pour ws zero xs)
length-pour (w ∷ ws) (suc at) xs = ap suc (length-pour ws at xs)

-- a word before the place, one from the place on, and one past the end
pub get_or-pour-before : (ws : List ℕ) (at : ℕ) (xs : List ℕ) (k : ℕ) → k < at → get_or (pour ws at xs) k 0 ≡ get_or ws k 0
unfolding pour
get_or-pour-before [] at xs k h = refl
get_or-pour-before (w ∷ ws) zero xs k h = absurd (omega arith)
get_or-pour-before (w ∷ ws) (suc at) xs zero h = refl
get_or-pour-before (w ∷ ws) (suc at) xs (suc k) h = get_or-pour-before ws at xs k (omega arith)

pub get_or-pour : (ws : List ℕ) (at : ℕ) (xs : List ℕ) (k : ℕ) → at ≤ k → k < length ws
    → get_or (pour ws at xs) k 0 ≡ bit_or (get_or ws k 0) (get_or xs (k - at) 0)
unfolding pour
get_or-pour [] at xs k h l = absurd (omega arith)
get_or-pour (w ∷ ws) zero [] k h l = sym (or_zero_r (get_or (w ∷ ws) k 0))
get_or-pour (w ∷ ws) zero (x ∷ xs) zero h l = refl
get_or-pour (w ∷ ws) zero (x ∷ xs) (suc k) h l =
    get_or-pour ws zero xs k (omega arith) (omega arith) ∙ ap (λ (j : ℕ). bit_or (get_or ws k 0) (get_or xs j 0)) (sub-zero k)
    ∙ ap (λ (j : ℕ). bit_or (get_or ws k 0) (get_or (x ∷ xs) j 0)) (sym (sub-zero (suc k)))
get_or-pour (w ∷ ws) (suc at) xs zero h l = absurd (omega arith)
get_or-pour (w ∷ ws) (suc at) xs (suc k) h l =
    get_or-pour ws at xs k (omega arith) (omega arith) ∙ ap (λ (j : ℕ). bit_or (get_or ws k 0) (get_or xs j 0)) (sym (suc-sub-suc k at))

pub get_or-pour-past : (ws : List ℕ) (at : ℕ) (xs : List ℕ) (k : ℕ) → length ws ≤ k → get_or (pour ws at xs) k 0 ≡ get_or ws k 0
get_or-pour-past ws at xs k h =
    get_or-eq_default (pour ws at xs) 0 (rw length-pour h) ∙ sym (get_or-eq_default ws 0 h)

-- where word k of the result comes from
data Poured (ws : List ℕ) (at : ℕ) (xs : List ℕ) (k : ℕ) : Type 0 where
  kept : get_or (pour ws at xs) k 0 ≡ get_or ws k 0 → Poured ws at xs k
  joined : at ≤ k → get_or (pour ws at xs) k 0 ≡ bit_or (get_or ws k 0) (get_or xs (k - at) 0) → Poured ws at xs k

poured : (ws : List ℕ) (at : ℕ) (xs : List ℕ) (k : ℕ) → Poured ws at xs k
poured ws at xs k = go (dec_lt k at) (dec_lt k (length ws))
  where
    go : Dec (k < at) → Dec (k < length ws) → Poured ws at xs k
    go (yes h) d = kept (get_or-pour-before ws at xs k h)
    go (no h) (yes l) = let m : at ≤ k = omega arith in joined m (get_or-pour ws at xs k m l)
    go (no h) (no l) = kept (get_or-pour-past ws at xs k (omega arith))

pub pour-words : (ws : List ℕ) (at : ℕ) (xs : List ℕ) → Words ws → Words xs → Words (pour ws at xs)
pour-words ws at xs hw hx k = go (poured ws at xs k)
  where
    go : Poured ws at xs k → get_or (pour ws at xs) k 0 < 2 ^ 32
    go (kept e) = rw e (hw k)
    go (joined l e) = rw e (or_lt 32 (get_or ws k 0) (get_or xs (k - at) 0) (hw k) (hx (k - at)))

-- or-ing in only adds
pub pour-adds : (ws : List ℕ) (at : ℕ) (xs : List ℕ) → ws ≼ pour ws at xs
unfolding bit
pour-adds ws at xs n h = go (poured ws at xs (n / 32))
  where
    go : Poured ws at xs (n / 32) → T (member (get_or (pour ws at xs) (n / 32) 0) (n % 32))
    go (kept e) = rw e h
    go (joined l e) = rw (e, member-or) (T-or-left (member (get_or ws (n / 32) 0) (n % 32)) (member (get_or xs (n / 32 - at) 0) (n % 32)) h)

-- what is new was in the words or-ed in
pub pour-new : (ws : List ℕ) (at : ℕ) (xs : List ℕ) (n : ℕ) → T (bit (pour ws at xs) n)
    → T (bit ws n) ⊎ ((32 * at ≤ n) × T (bit xs (n - 32 * at)))
unfolding bit
pour-new ws at xs n h = go (poured ws at xs (n / 32))
  where
    go : Poured ws at xs (n / 32) → T (bit ws n) ⊎ ((32 * at ≤ n) × T (bit xs (n - 32 * at)))
    go (kept e) = inl (rw e at h)
    go (joined l e) =
        let d : (n - 32 * at) / 32 ≡ n / 32 - at = omega arith in
        let m : (n - 32 * at) % 32 ≡ n % 32 = omega arith in
        let o : T (member (get_or ws (n / 32) 0) (n % 32) || member (get_or xs (n / 32 - at) 0) (n % 32)) = rw (e, member-or) at h in
        ⊎_elim (λ a. inl a) (λ b. inr (omega arith, rw (d, m) b)) (T-or (member (get_or ws (n / 32) 0) (n % 32)) _ o)

-- and all of them are in, as far as the list goes
pub pour-has : (ws : List ℕ) (at : ℕ) (xs : List ℕ) (m : ℕ) → 32 * at + m < 32 * length ws → T (bit xs m)
    → T (bit (pour ws at xs) (32 * at + m))
unfolding bit
pour-has ws at xs m l h =
    let d : (32 * at + m) / 32 ≡ at + m / 32 = omega arith in
    let r : (32 * at + m) % 32 ≡ m % 32 = omega arith in
    let k : at + m / 32 - at ≡ m / 32 = omega arith in
    let e : get_or (pour ws at xs) (at + m / 32) 0 ≡ bit_or (get_or ws (at + m / 32) 0) (get_or xs (at + m / 32 - at) 0) =
    get_or-pour ws at xs (at + m / 32) (omega arith) (omega arith)
    in
    rw (d, r, e, k, member-or) (T-or-right (member (get_or ws (at + m / 32) 0) (m % 32)) (member (get_or xs (m / 32) 0) (m % 32)) h)

-- ---- one digit

pub length-mark : (ws : List ℕ) (n : ℕ) → length (mark ws n) ≡ length ws
unfolding mark
length-mark ws n = length-pour ws (n / 32) (2 ^ (n % 32) ∷ [])

pow-word : (n : ℕ) → Words (2 ^ (n % 32) ∷ [])
pow-word n zero = pow-lt (mod-lt n pos32)
pow-word n (suc k) = lit< tt

pub mark-words : (ws : List ℕ) (n : ℕ) → Words ws → Words (mark ws n)
unfolding mark
mark-words ws n h = pour-words ws (n / 32) (2 ^ (n % 32) ∷ []) h (pow-word n)

pub mark-adds : (ws : List ℕ) (n : ℕ) → ws ≼ mark ws n
unfolding mark
mark-adds ws n = pour-adds ws (n / 32) (2 ^ (n % 32) ∷ [])

-- the digits of a single word
pub bit_word : (w m : ℕ) → m < 32 → bit (w ∷ []) m ≡ member w m
bit_word w m l = ap (λ (n : ℕ). bit (w ∷ []) n) (omega arith) ∙ bit_at (w ∷ []) 0 m l

bit-single : (j m : ℕ) → T (bit (2 ^ j ∷ []) m) → m ≡ j
bit-single j m h =
    let l : m < 32 = bit-short (2 ^ j ∷ []) m h in
    sym (member-single-only j m (subst T (bit_word (2 ^ j) m l) h))

pub mark-new : (ws : List ℕ) (n m : ℕ) → T (bit (mark ws n) m) → T (bit ws m) ⊎ (m ≡ n)
unfolding mark
mark-new ws n m h =
    ⊎_elim (λ a. inl a)
    (λ b.
    let j : m - 32 * (n / 32) ≡ n % 32 = bit-single (n % 32) (m - 32 * (n / 32)) b.1 in
    let l : 32 * (n / 32) ≤ m = b.0 in
    inr (omega arith))
    (pour-new ws (n / 32) (2 ^ (n % 32) ∷ []) m h)

pub mark-has : (ws : List ℕ) (n : ℕ) → n < 32 * length ws → T (bit (mark ws n) n)
unfolding mark
mark-has ws n l =
    let e : 32 * (n / 32) + n % 32 ≡ n = omega arith in
    let h : T (bit (2 ^ (n % 32) ∷ []) (n % 32)) =
    subst T (sym (bit_word (2 ^ (n % 32)) (n % 32) (mod-lt n pos32))) (member-single (n % 32))
    in
    subst (λ (m : ℕ). T (bit (pour ws (n / 32) (2 ^ (n % 32) ∷ [])) m)) e
    (pour-has ws (n / 32) (2 ^ (n % 32) ∷ []) (n % 32) (rw e l) h)
