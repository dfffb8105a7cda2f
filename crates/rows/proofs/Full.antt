-- So many full words: poured in one after the other, and their digits.
use Prim.Native.Nat.{ℕ, zero, suc, ◌+◌, ◌*◌, ◌/◌, ◌%◌, ◌^◌, ◌<◌, ◌≤◌}
use mathlib.Core.Path.{◌≡◌, refl, sym, ap, ap₂, ◌∙◌, subst}
use mathlib.Core.Bool.{true}
use mathlib.Core.List.{List, [], ◌∷◌, ◌++◌}
use native.Mathlib.Decide.{dec_lt}
use native.Mathlib.Nat.{suc-add, mod-eq_of_lt}
use native.Mathlib.Numerals.{add-one}
use native.Mathlib.Omega.{arith}
use lib.Bits.{bit_and, bit_or, or_add_and, and_mask}
use lib.Dec.{T, lit<}
use lib.ListN.{length, take, drop, get_or, replicate, length-replicate, get_or-replicate, get_or-eq_default}
use Rattle.permset.specs.Sets.{member}
use Rattle.calculus.specs.Layout.{bit, pour, Words}
use Rattle.calculus.proofs.Facts.{pour-nil}
use Rattle.calculus.proofs.Masks.{agree, agree-below}
use Rattle.calculus.proofs.Slices.{bit-short}
use Rattle.rows.specs.Rows.{Poured}

abbrev pub full : ℕ
full = 4294967295

-- ---- one word more

pub pour-more : (ws : List ℕ) (at n x : ℕ) → pour (pour ws at (replicate n x)) (at + n) (x ∷ []) ≡ pour ws at (replicate (suc n) x)
unfolding pour
pour-more [] at n x = refl
pour-more (w ∷ ws) zero zero x = refl
pour-more (w ∷ ws) zero (suc n) x =
    let e : zero + suc n ≡ suc (zero + n) = omega arith in
    rw e (ap (λ (ys : List ℕ). bit_or w x ∷ ys) (pour-more ws zero n x))
pour-more (w ∷ ws) (suc at) n x = rw (suc-add at n) (ap (λ (ys : List ℕ). w ∷ ys) (pour-more ws at n x))

pub none_yet : (ws : List ℕ) (at : ℕ) → Poured ws ws at (replicate 0 full) 0
none_yet ws at = record { words = sym (pour-nil ws at); count = omega arith }

pub one_more : (ws xs ys : List ℕ) (at k m n : ℕ) → Poured ws xs at (replicate k full) m → Poured xs ys (at + k) (full ∷ []) n
    → Poured ws ys at (replicate (k + 1) full) (m + n)
one_more ws xs ys at k m n p q =
    record {
      words =
          q.words ∙ ap (λ (zs : List ℕ). pour zs (at + k) (full ∷ [])) p.words ∙ pour-more ws at k full
          ∙ ap (λ (i : ℕ). pour ws at (replicate i full)) (sym (add-one k));
      count = omega (arith, p.count, q.count);
    }

-- ---- words filled

all-digits : (w : ℕ) → w < 2 ^ 32 → bit_or w full ≡ full
all-digits w h = let e : bit_and w full ≡ w = and_mask w 32 ∙ mod-eq_of_lt h in omega (arith, or_add_and w full)

-- n words from a place on
pub filled : (ws : List ℕ) (at n : ℕ) → at + n ≤ length ws → Words ws → take at ws ++ (replicate n full ++ drop n (drop at ws)) ≡ pour ws at (replicate n full)
unfolding pour
filled [] zero zero h f = refl
filled [] zero (suc n) h f = absurd (omega arith)
filled [] (suc at) n h f = absurd (omega arith)
filled (w ∷ ws) zero zero h f = refl
filled (w ∷ ws) zero (suc n) h f =
    ap₂ (λ (x : ℕ) (xs : List ℕ). x ∷ xs) (sym (all-digits w (f zero))) (filled ws zero n (omega arith) (λ k. f (suc k)))
filled (w ∷ ws) (suc at) n h f = ap (λ (xs : List ℕ). w ∷ xs) (filled ws at n (omega arith) (λ k. f (suc k)))

-- ---- the digits of full words

pub full-digit : (i : ℕ) → i < 32 → member full i ≡ true
unfolding member agree
full-digit i h = agree-below 32 (member full) (λ v. true) tt i h

pub full-bit : (n v : ℕ) → v < 32 * n → T (bit (replicate n full) v)
unfolding bit
full-bit n v h =
    subst T
    (sym (ap (λ (w : ℕ). member w (v % 32)) (get_or-replicate n (v / 32) full 0 (omega arith)) ∙ full-digit (v % 32) (omega arith)))
    tt

pub full-words : (n : ℕ) → Words (replicate n full)
full-words n k = go (dec_lt k n)
  where
    go : Dec (k < n) → get_or (replicate n full) k 0 < 2 ^ 32
    go (yes h) = subst (λ (w : ℕ). w < 2 ^ 32) (sym (get_or-replicate n k full 0 h)) (lit< tt)
    go (no h) =
        subst (λ (w : ℕ). w < 2 ^ 32) (sym (get_or-eq_default (replicate n full) 0 {n = k} (omega (arith, length-replicate n full)))) (lit< tt)

-- they have no other digits
pub full-short : (n v : ℕ) → T (bit (replicate n full) v) → v < 32 * n
full-short n v h = omega (arith, bit-short (replicate n full) v h, length-replicate n full)
