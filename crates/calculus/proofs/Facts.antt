-- Facts of parts of an estimate: words or-ed into a part change the facts of that part alone, and an estimate that gained no fact is
-- unchanged.
use Prim.Native.Nat.{ℕ, zero, suc, ◌+◌, ◌*◌, ◌/◌, ◌%◌, ◌^◌, ◌≤◌, ◌<◌}
use mathlib.Core.Path.{◌≡◌, refl, sym, ap, ◌∙◌}
use mathlib.Core.List.{List, [], ◌∷◌, ◌++◌, append_assoc}
use native.Mathlib.Nat.{zero-add, suc-add, add_assoc, pow-suc}
use native.Mathlib.Omega.{arith}
use lib.Count.{ones_in, ones, ones_step}
use lib.Arith.{lt-one}
use lib.Bits.{bit_or}
use lib.ListN.{length, get_or, set, take, drop, take-append-drop}
use lib.Seq.{take-nil, drop-nil, drop-drop}
use Rattle.calculus.specs.Layout.{bit, pour, Words}
use Rattle.calculus.specs.Estimate.{facts}
use Rattle.calculus.proofs.Slices.{◌≼◌, words-ext, bit-short}
use Rattle.calculus.proofs.Counting.{count, count-mono, count-equal, facts-count}

pub facts-append : (xs ys : List ℕ) → facts (xs ++ ys) ≡ facts xs + facts ys
unfolding facts
facts-append [] ys = sym (zero-add (facts ys))
facts-append (x ∷ xs) ys =
    ap (λ (n : ℕ). ones_in 32 x + n) (facts-append xs ys) ∙ sym (add_assoc (ones_in 32 x) (facts xs) (facts ys))

-- the digits counted in a word of 32
pub ones-word : (x : ℕ) → x < 2 ^ 32 → ones x ≡ ones_in 32 x
unfolding ones_in ones
ones-word x h = go 32 x h
  where
    go : (k n : ℕ) → n < 2 ^ k → ones n ≡ ones_in k n
    go zero n l = ap ones (lt-one l)
    go (suc k) n l = let e : 2 ^ suc k ≡ 2 ^ k * 2 = pow-suc 2 k in ones_step n ∙ ap (λ (m : ℕ). n % 2 + m) (go k (n / 2) (omega arith))

pub facts-le : (ws xs : List ℕ) → length ws ≡ length xs → ws ≼ xs → facts ws ≤ facts xs
facts-le ws xs e f =
    let a : facts ws ≡ count (32 * length ws) (bit ws) = facts-count ws in
    let b : facts xs ≡ count (32 * length ws) (bit xs) = facts-count xs ∙ ap (λ (n : ℕ). count (32 * n) (bit xs)) (sym e) in
    omega (arith, count-mono (32 * length ws) (bit ws) (bit xs) (λ k l. f k))

-- where facts do not grow, nothing is new
pub facts-same : (ws xs : List ℕ) → length ws ≡ length xs → Words ws → Words xs → ws ≼ xs → facts ws ≡ facts xs → ws ≡ xs
facts-same ws xs e hw hx f g =
    let a : facts ws ≡ count (32 * length ws) (bit ws) = facts-count ws in
    let b : facts xs ≡ count (32 * length ws) (bit xs) = facts-count xs ∙ ap (λ (n : ℕ). count (32 * n) (bit xs)) (sym e) in
    words-ext ws xs e hw hx f
    (λ n h. let l : n < 32 * length xs = bit-short xs n h in count-equal (32 * length ws) (bit ws) (bit xs) (λ k l. f k) (omega arith) n (omega arith) h)

-- ---- words or-ed into a part

pub pour-nil : (ws : List ℕ) (at : ℕ) → pour ws at [] ≡ ws
unfolding pour
pour-nil [] at = refl
pour-nil (w ∷ ws) zero = refl
pour-nil (w ∷ ws) (suc at) = ap (λ (xs : List ℕ). w ∷ xs) (pour-nil ws at)

-- at the start of a list no longer than what is or-ed in, and past it
pour-start : (ws xs : List ℕ) → length xs ≤ length ws → pour ws 0 xs ≡ pour (take (length xs) ws) 0 xs ++ drop (length xs) ws
unfolding pour
pour-start [] [] h = refl
pour-start [] (x ∷ xs) h = refl
pour-start (w ∷ ws) [] h = refl
pour-start (w ∷ ws) (x ∷ xs) h = ap (λ (ys : List ℕ). bit_or w x ∷ ys) (pour-start ws xs (omega arith))

-- the part before is kept, and so is the part after
pub pour-parts : (ws : List ℕ) (at : ℕ) (xs : List ℕ) (n : ℕ) → length xs ≡ n → at + n ≤ length ws
    → pour ws at xs ≡ take at ws ++ pour (take n (drop at ws)) 0 xs ++ drop (at + n) ws
unfolding pour
pour-parts [] at xs n e h = simp (take-nil, drop-nil)
pour-parts (w ∷ ws) zero xs n e h = rw (zero-add n, ← e) (pour-start (w ∷ ws) xs (omega arith))
pour-parts (w ∷ ws) (suc at) xs n e h =
    rw (suc-add at n) (ap (λ (ys : List ℕ). w ∷ ys) (pour-parts ws at xs n e (omega arith)))

-- one word or-ed in
pub pour-one : (ws : List ℕ) (at x : ℕ) → pour ws at (x ∷ []) ≡ set ws at (bit_or (get_or ws at 0) x)
unfolding pour
pour-one [] at x = refl
pour-one (w ∷ ws) zero x = ap (λ (ys : List ℕ). bit_or w x ∷ ys) (pour-nil ws 0)
pour-one (w ∷ ws) (suc at) x = ap (λ (ys : List ℕ). w ∷ ys) (pour-one ws at x)

-- word by word: one word more of those to be or-ed in
pub pour-next : (ws : List ℕ) (at : ℕ) (xs : List ℕ) (j : ℕ) → j < length xs
    → set (pour ws at (take j xs)) (at + j) (bit_or (get_or ws (at + j) 0) (get_or xs j 0)) ≡ pour ws at (take (suc j) xs)
unfolding pour
pour-next [] at xs j h = refl
pour-next (w ∷ ws) zero [] j h = absurd (omega arith)
pour-next (w ∷ ws) zero (x ∷ xs) zero h = ap (λ (ys : List ℕ). bit_or w x ∷ ys) (sym (pour-nil ws 0))
pour-next (w ∷ ws) zero (x ∷ xs) (suc j) h =
    let e : zero + suc j ≡ suc (zero + j) = omega arith in
    rw e (ap (λ (ys : List ℕ). bit_or w x ∷ ys) (pour-next ws zero xs j (omega arith)))
pour-next (w ∷ ws) (suc at) xs j h = rw (suc-add at j) (ap (λ (ys : List ℕ). w ∷ ys) (pour-next ws at xs j h))

-- ---- facts of parts

-- the three parts of a list
three-parts : (ws : List ℕ) (at n : ℕ) → ws ≡ take at ws ++ take n (drop at ws) ++ drop (at + n) ws
three-parts ws at n =
    sym (take-append-drop at ws) ∙ ap (λ (ys : List ℕ). take at ws ++ ys) (sym (take-append-drop n (drop at ws)))
    ∙ sym (append_assoc (take at ws) (take n (drop at ws)) (drop n (drop at ws)))
    ∙ ap (λ (ys : List ℕ). take at ws ++ take n (drop at ws) ++ ys) (drop-drop n at ws)

facts-three : (xs ys zs : List ℕ) → facts (xs ++ ys ++ zs) ≡ facts xs + facts ys + facts zs
facts-three xs ys zs = facts-append (xs ++ ys) zs ∙ ap (λ (n : ℕ). n + facts zs) (facts-append xs ys)

-- a word changed
pub facts-set : (ws : List ℕ) (at x : ℕ) → at < length ws → facts (set ws at x) + ones_in 32 (get_or ws at 0) ≡ facts ws + ones_in 32 x
unfolding facts
facts-set [] at x h = absurd (omega arith)
facts-set (w ∷ ws) zero x h = omega arith
facts-set (w ∷ ws) (suc at) x h = omega (arith, facts-set ws at x (omega arith))
