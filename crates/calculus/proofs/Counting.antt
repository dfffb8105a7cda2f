-- Counts: how many numbers below a limit pass a test, and the facts of a list of words as such a count.
use Prim.Native.Nat.{ℕ, zero, suc, ◌+◌, ◌*◌, ◌/◌, ◌%◌, ◌≤◌, ◌<◌}
use mathlib.Core.Path.{◌≡◌, refl, sym, ap, ap₂, ◌∙◌}
use mathlib.Core.List.{List, [], ◌∷◌}
use mathlib.Core.Bool.{Bool, true, false}
use native.Mathlib.Nat.{zero-add, suc-add, zero-mul, suc-mul, mod-lt, add_comm, add_assoc}
use native.Mathlib.Numerals.{one-add}
use native.Mathlib.Omega.{arith}
use borrow.Author.Tests.{lt-ltb, le-ltb}
use lib.Dec.{T, eqb, ltb, lit<, leb-suc-suc}
use lib.Count.{ones_in}
use lib.ListN.{length, get_or}
use Rattle.permset.specs.Sets.{member}
use Rattle.calculus.specs.Layout.{bit}
use Rattle.calculus.specs.Estimate.{facts}
use Rattle.permset.proofs.Laws.{member-zero, member-suc}
use Rattle.calculus.proofs.Slices.{bit_at}

one : Bool → ℕ
one true = 1
one false = 0

pub count : ℕ → (ℕ → Bool) → ℕ
count zero f = 0
count (suc n) f = one (f 0) + count n (λ k. f (suc k))

count_none : (f : ℕ → Bool) → count 0 f ≡ 0
unfolding count
count_none f = refl

pub count-ext : (n : ℕ) (f g : ℕ → Bool) → ((k : ℕ) → k < n → f k ≡ g k) → count n f ≡ count n g
unfolding count
count-ext zero f g h = refl
count-ext (suc n) f g h =
    ap₂ (λ (a b : ℕ). a + b) (ap one (h 0 (omega arith))) (count-ext n (λ k. f (suc k)) (λ k. g (suc k)) (λ k l. h (suc k) (omega arith)))

one-mono : (a b : Bool) → (T a → T b) → one a ≤ one b
unfolding one
one-mono true true h = omega arith
one-mono true false h = absurd (h tt)
one-mono false b h = omega arith

pub count-mono : (n : ℕ) (f g : ℕ → Bool) → ((k : ℕ) → k < n → T (f k) → T (g k)) → count n f ≤ count n g
unfolding count
count-mono zero f g h = omega arith
count-mono (suc n) f g h =
    omega (arith, one-mono (f 0) (g 0) (h 0 (omega arith)), count-mono n (λ k. f (suc k)) (λ k. g (suc k)) (λ k l. h (suc k) (omega arith)))

one-equal : (a b : Bool) → one b ≤ one a → T b → T a
unfolding one
one-equal true b h t = tt
one-equal false true h t = absurd (omega arith)
one-equal false false h t = t

-- where a count does not grow, nothing new passes
pub count-equal : (n : ℕ) (f g : ℕ → Bool) → ((k : ℕ) → k < n → T (f k) → T (g k)) → count n g ≤ count n f
    → (k : ℕ) → k < n → T (g k) → T (f k)
unfolding count
count-equal zero f g h l k m t = absurd (omega arith)
count-equal (suc n) f g h l zero m t =
    one-equal (f 0) (g 0) (omega (arith, count-mono n (λ k. f (suc k)) (λ k. g (suc k)) (λ k l. h (suc k) (omega arith)))) t
count-equal (suc n) f g h l (suc k) m t =
    count-equal n (λ k. f (suc k)) (λ k. g (suc k)) (λ k l. h (suc k) (omega arith))
    (omega (arith, one-mono (f 0) (g 0) (h 0 (omega arith)))) k (omega arith) t

pub count_add : (m n : ℕ) (f : ℕ → Bool) → count (m + n) f ≡ count m f + count n (λ k. f (m + k))
unfolding count
count_add zero n f =
    rw (zero-add n, zero-add (count n (λ k. f (zero + k)))) (count-ext n f (λ k. f (zero + k)) (λ k h. ap f (sym (zero-add k))))
count_add (suc m) n f =
    ap (λ (j : ℕ). count j f) (suc-add m n) ∙ ap (λ (j : ℕ). one (f 0) + j) (count_add m n (λ k. f (suc k)))
    ∙ sym (add_assoc (one (f 0)) (count m (λ k. f (suc k))) (count n (λ k. f (suc (m + k)))))
    ∙ ap (λ (j : ℕ). one (f 0) + count m (λ k. f (suc k)) + j)
    (count-ext n (λ k. f (suc (m + k))) (λ k. f (suc m + k)) (λ k h. ap f (sym (suc-add m k))))

-- m blocks of g numbers, each with the same test
pub count-blocks : (m g : ℕ) (f h : ℕ → Bool) → ((i j : ℕ) → i < m → j < g → f (i * g + j) ≡ h j) → count (m * g) f ≡ m * count g h
unfolding count
count-blocks zero g f h e = ap (λ (j : ℕ). count j f) (zero-mul g) ∙ sym (zero-mul (count g h))
count-blocks (suc m) g f h e =
    ap (λ (j : ℕ). count j f) (suc-mul m g ∙ add_comm (m * g) g) ∙ count_add g (m * g) f
    ∙ ap₂ (λ (a b : ℕ). a + b)
    (count-ext g f h (λ j l. ap f (sym (zero-add j) ∙ ap (λ (x : ℕ). x + j) (sym (zero-mul g))) ∙ e 0 j (omega arith) l))
    (count-blocks m g (λ k. f (g + k)) h (λ i j a b. ap f (shifted i j) ∙ e (suc i) j (omega arith) b))
    ∙ add_comm (count g h) (m * count g h) ∙ sym (suc-mul m (count g h))
  where
    shifted : (i j : ℕ) → g + (i * g + j) ≡ suc i * g + j
    shifted i j = let e : suc i * g ≡ i * g + g = suc-mul i g in omega arith

pub count-below : (g e : ℕ) → e ≤ g → count g (λ j. ltb j e) ≡ e
unfolding count one
count-below zero zero h = refl
count-below zero (suc e) h = absurd (omega arith)
count-below (suc g) zero h =
    zero-add (count g (λ k. ltb (suc k) 0))
    ∙ count-ext g (λ k. ltb (suc k) 0) (λ k. ltb k 0) (λ k l. le-ltb (suc k) 0 (omega arith) ∙ sym (le-ltb k 0 (omega arith)))
    ∙ count-below g zero (omega arith)
count-below (suc g) (suc e) h =
    ap₂ (λ (a b : ℕ). a + b) (ap one (lt-ltb 0 (suc e) (omega arith)))
    (count-ext g (λ k. ltb (suc k) (suc e)) (λ k. ltb k e) (λ k l. leb-suc-suc (suc k) e) ∙ count-below g e (omega arith))
    ∙ one-add e

digit-one : (x : ℕ) → x < 2 → x ≡ one (eqb x 1)
unfolding one
digit-one zero h = refl
digit-one (suc zero) h = refl
digit-one (suc (suc x)) h = absurd (omega arith)

ones_in-count : (d w : ℕ) → ones_in d w ≡ count d (member w)
unfolding ones_in count
ones_in-count zero w = refl
ones_in-count (suc d) w =
    ap₂ (λ (a b : ℕ). a + b) (digit-one (w % 2) (mod-lt w (lit< tt)) ∙ ap one (sym (member-zero w)))
    (ones_in-count d (w / 2) ∙ count-ext d (member (w / 2)) (λ k. member w (suc k)) (λ k h. sym (member-suc w k)))

bit-first : (w : ℕ) (ws : List ℕ) (k : ℕ) → k < 32 → bit (w ∷ ws) k ≡ member w k
bit-first w ws k h = ap (λ (n : ℕ). bit (w ∷ ws) n) (omega arith) ∙ bit_at (w ∷ ws) 0 k h

bit-later : (w : ℕ) (ws : List ℕ) (k : ℕ) → bit (w ∷ ws) (32 + k) ≡ bit ws k
unfolding bit
bit-later w ws k =
    let d : (32 + k) / 32 ≡ suc (k / 32) = omega arith in
    let m : (32 + k) % 32 ≡ k % 32 = omega arith in
    ap₂ (λ (a b : ℕ). member (get_or (w ∷ ws) a 0) b) d m

pub facts-count : (ws : List ℕ) → facts ws ≡ count (32 * length ws) (bit ws)
unfolding facts
facts-count [] = sym (count_none (bit []))
facts-count (w ∷ ws) =
    let e : 32 + 32 * length ws ≡ 32 * suc (length ws) = omega arith in
    ap₂ (λ (a b : ℕ). a + b) (ones_in-count 32 w ∙ count-ext 32 (member w) (bit (w ∷ ws)) (λ k h. sym (bit-first w ws k h)))
    (facts-count ws ∙ count-ext (32 * length ws) (bit ws) (λ k. bit (w ∷ ws) (32 + k)) (λ k h. sym (bit-later w ws k)))
    ∙ sym (count_add 32 (32 * length ws) (bit (w ∷ ws))) ∙ ap (λ (n : ℕ). count n (bit (w ∷ ws))) e
