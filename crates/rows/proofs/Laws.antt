-- Laws of rows: words or-ed in one after another, how many facts that adds, what a row lacks of another, and what a mask keeps.
use Prim.Native.Nat.{ℕ, zero, suc, ◌+◌, ◌-◌, ◌*◌, ◌/◌, ◌%◌, ◌^◌, ◌≤◌, ◌<◌}
use mathlib.Core.Path.{◌≡◌, refl, sym, ap, ◌∙◌, subst}
use mathlib.Core.Logic.{◌⊎◌, inl, inr, ⊎_elim}
use mathlib.Core.Bool.{Bool, true, false, not, ◌&&◌, ◌||◌}
use mathlib.Core.List.{List, [], ◌∷◌, ◌++◌}
use native.Mathlib.Nat.{zero-add, suc-add, add-zero, zero-mul, one-mul, add-mul, mod-lt, pow-suc}
use native.Mathlib.Decide.{ℕ_discrete, dec_lt}
use native.Mathlib.Numerals.{add-one, one-add}
use native.Mathlib.Omega.{arith}
use borrow.Author.Tests.{eq-eqb, ne_eqb, lt-ltb, le-ltb}
use lib.Dec.{eqb, ltb}
use lib.Count.{ones_in, ones, ones_step, ones_cat}
use lib.Pow.{pow_pos, pow-lt, split}
use lib.Bits.{bit_and, bit_or, bit_xor, and_le_l, and_le_r, or_lt, xor_lt, or_add_and, xor_add_and, xor_self, or_mod, xor_mod, or_shr, xor_shr, and_zero_l, and_zero_r, or_disjoint, and_high}
use lib.ListN.{length, get_or, set, take, drop, take-append-drop, length-drop, drop_of_length-le}
use lib.Seq.{drop-cons, length-take-le, take-nil, drop-nil, set-get_or, get_or-take, get_or-drop}
use Rattle.calculus.specs.Layout.{pour}
use Rattle.calculus.specs.Estimate.{facts}
use Rattle.calculus.proofs.Slices.{length-pour, pour-adds}
use Rattle.calculus.proofs.Facts.{ones-word, facts-le, facts-set, facts-append, pour-one}
use Rattle.calculus.specs.Layout.{masked}
use Rattle.calculus.proofs.Masks.{nonzero}
use Rattle.rows.specs.Rows.{NextCommon, meets, Poured}

-- ---- the digits of one word

ones_in-le : (k n : ℕ) → ones_in k n ≤ k
unfolding ones_in
ones_in-le zero n = omega arith
ones_in-le (suc k) n = omega (arith, ones_in-le k (n / 2))

-- what another word adds to a word is where the two differ
one-digit : (p q : ℕ) → p < 2 → q < 2 → bit_xor (bit_or p q) p + p ≡ bit_or p q
one-digit zero zero h l = refl
one-digit zero (suc zero) h l = refl
one-digit (suc zero) zero h l = refl
one-digit (suc zero) (suc zero) h l = refl
one-digit (suc (suc p)) q h l = absurd (omega arith)
one-digit zero (suc (suc q)) h l = absurd (omega arith)
one-digit (suc zero) (suc (suc q)) h l = absurd (omega arith)

differences : (k a x : ℕ) → ones_in k (bit_xor (bit_or a x) a) + ones_in k a ≡ ones_in k (bit_or a x)
unfolding ones_in
differences zero a x = omega arith
differences (suc k) a x =
    let or-low : bit_or a x % 2 ≡ bit_or (a % 2) (x % 2) = or_mod a x 1 in
    let low : bit_xor (bit_or a x) a % 2 ≡ bit_xor (bit_or (a % 2) (x % 2)) (a % 2) =
    xor_mod (bit_or a x) a 1 ∙ ap (λ (n : ℕ). bit_xor n (a % 2)) or-low
    in
    let or-high : ones_in k (bit_or a x / 2) ≡ ones_in k (bit_or (a / 2) (x / 2)) = ap (ones_in k) (or_shr a x 1) in
    let high : ones_in k (bit_xor (bit_or a x) a / 2) ≡ ones_in k (bit_xor (bit_or (a / 2) (x / 2)) (a / 2)) =
    ap (ones_in k) (xor_shr (bit_or a x) a 1 ∙ ap (λ (n : ℕ). bit_xor n (a / 2)) (or_shr a x 1))
    in
    omega (arith, or-low, low, or-high, high, differences k (a / 2) (x / 2), one-digit (a % 2) (x % 2) (omega arith) (omega arith))

-- two tests for equal numbers that hold together
eqb_same : (a b c d : ℕ) → (a ≡ b → c ≡ d) → (c ≡ d → a ≡ b) → eqb a b ≡ eqb c d
eqb_same a b c d f g = go (ℕ_discrete a b)
  where
    go : Dec (a ≡ b) → eqb a b ≡ eqb c d
    go (yes e) = eq-eqb a b e ∙ sym (eq-eqb c d (f e))
    go (no e) = ne_eqb a b e ∙ sym (ne_eqb c d (λ x. e (g x)))

pub or-false : (b : Bool) → (b || false) ≡ b
or-false true = refl
or-false false = refl

pub or-true : (b : Bool) → (b || true) ≡ true
or-true true = refl
or-true false = refl

pub or_assoc : (a b c : Bool) → (a || (b || c)) ≡ ((a || b) || c)
or_assoc true b c = refl
or_assoc false b c = refl

or-none : (a b : ℕ) → eqb (bit_or a b) 0 ≡ (eqb a 0 && eqb b 0)
or-none a b = go (ℕ_discrete a 0)
  where
    go : Dec (a ≡ 0) → eqb (bit_or a b) 0 ≡ (eqb a 0 && eqb b 0)
    go (yes e) =
        rw (eq-eqb a 0 e)
        (eqb_same (bit_or a b) 0 b 0 (λ z. omega (arith, or_add_and a b, and_le_l a b)) (λ z. omega (arith, or_add_and a b, and_le_l a b)))
    go (no e) =
        rw (ne_eqb a 0 e)
        (ne_eqb (bit_or a b) 0 (λ z. e (omega (arith, or_add_and a b, and_le_r a b))))

xor-none : (a b : ℕ) → eqb (bit_xor a b) 0 ≡ eqb b a
xor-none a b =
    eqb_same (bit_xor a b) 0 b a (λ z. omega (arith, xor_add_and a b, and_le_l a b, and_le_r a b))
    (λ e. ap (λ (x : ℕ). bit_xor a x) e ∙ xor_self a)

not-and : (a b : Bool) → not (a && b) ≡ (not a || not b)
not-and true b = refl
not-and false b = refl

-- what is missing so far, and in one word more
pub missing-more : (m x y : ℕ) → not (eqb (bit_or m (bit_xor x (bit_and x y))) 0) ≡ (not (eqb m 0) || not (eqb (bit_and x y) x))
missing-more m x y =
    ap not (or-none m (bit_xor x (bit_and x y)) ∙ ap (λ (b : Bool). eqb m 0 && b) (xor-none x (bit_and x y)))
    ∙ not-and (eqb m 0) (eqb (bit_and x y) x)

pub drop-next : (xs : List ℕ) (i : ℕ) → i < length xs → drop i xs ≡ get_or xs i 0 ∷ drop (i + 1) xs
drop-next xs i h = rw (add-one, drop-cons xs i 0)

-- ---- words or-ed in

-- one after another
pub pour-then : (ws : List ℕ) (at : ℕ) (xs ys : List ℕ) → pour (pour ws at xs) (at + length xs) ys ≡ pour ws at (xs ++ ys)
unfolding pour
pour-then [] at xs ys = refl
pour-then (w ∷ ws) zero [] ys = refl
pour-then (w ∷ ws) zero (x ∷ xs) ys =
    let e : zero + suc (length xs) ≡ suc (zero + length xs) = omega arith in
    rw e (ap (λ (zs : List ℕ). bit_or w x ∷ zs) (pour-then ws zero xs ys))
pour-then (w ∷ ws) (suc at) xs ys = rw (suc-add at (length xs)) (ap (λ (zs : List ℕ). w ∷ zs) (pour-then ws at xs ys))

pub length-poured : (ws new : List ℕ) (at : ℕ) (xs : List ℕ) (added : ℕ) → Poured ws new at xs added → length new ≡ length ws
length-poured ws new at xs added p = ap length p.words ∙ length-pour ws at xs

-- facts are not lost
pub pour-grows : (ws : List ℕ) (at : ℕ) (xs : List ℕ) → facts ws ≤ facts (pour ws at xs)
pour-grows ws at xs = facts-le ws (pour ws at xs) (sym (length-pour ws at xs)) (pour-adds ws at xs)

-- ---- one word or-ed in

module _ (ws : List ℕ) (k x : ℕ) where
  pub nothing-new : bit_or (get_or ws k 0) x ≡ get_or ws k 0 → Poured ws ws k (x ∷ []) 0
  nothing-new e =
      record {
        words = sym (pour-one ws k x ∙ ap (set ws k) e ∙ set-get_or ws k 0);
        count = omega arith;
      }

  module _ (inside : k < length ws) (old : get_or ws k 0 < 2 ^ 32) (new : x < 2 ^ 32) where
    counted : facts (pour ws k (x ∷ [])) + ones (get_or ws k 0) ≡ facts ws + ones (bit_or (get_or ws k 0) x)
    counted =
        let e : facts (pour ws k (x ∷ [])) ≡ facts (set ws k (bit_or (get_or ws k 0) x)) = ap facts (pour-one ws k x) in
        omega
        (arith, facts-set ws k (bit_or (get_or ws k 0) x) inside, ones-word (get_or ws k 0) old, ones-word (bit_or (get_or ws k 0) x) (or_lt 32 (get_or ws k 0) x old new))

    pub ones-grow : ones (get_or ws k 0) ≤ ones (bit_or (get_or ws k 0) x)
    ones-grow = omega (arith, counted, pour-grows ws k (x ∷ []))

    pub new-bits : Poured ws (set ws k (bit_or (get_or ws k 0) x)) k (x ∷ []) (ones (bit_or (get_or ws k 0) x) - ones (get_or ws k 0))
    new-bits =
        record {
          words = sym (pour-one ws k x);
          count = ap facts (sym (pour-one ws k x)) ∙ omega (arith, counted, ones-grow);
        }

    -- counted by the digits in which the new word differs
    pub different-bits : Poured ws (set ws k (bit_or (get_or ws k 0) x)) k (x ∷ []) (ones (bit_xor (bit_or (get_or ws k 0) x) (get_or ws k 0)))
    different-bits =
        let a = get_or ws k 0 in
        let o : bit_or a x < 2 ^ 32 = or_lt 32 a x old new in
        record {
          words = new-bits.words;
          count =
              omega
              (arith, new-bits.count, ones-grow, differences 32 a x, ones-word a old, ones-word (bit_or a x) o, ones-word (bit_xor (bit_or a x) a) (xor_lt 32 (bit_or a x) a o old));
        }

-- as many facts at most as there are digits
pub facts-most : (ws : List ℕ) → facts ws ≤ 32 * length ws
unfolding facts
facts-most [] = omega arith
facts-most (w ∷ ws) = omega (arith, ones_in-le 32 w, facts-most ws)

-- so few are added to a row
pub poured-few : (old new : List ℕ) (at : ℕ) (xs : List ℕ) (n : ℕ) → Poured old new at xs n → length old < 4096 → n < 131072
poured-few old new at xs n p h = omega (arith, p.count, facts-most new, length-poured old new at xs n p)

-- ---- one digit set

-- a word has the digit i or not
digit-cases : (a i : ℕ) → ((a / 2 ^ i % 2 ≡ 0) × (bit_and a (2 ^ i) ≡ 0)) ⊎ (bit_and a (2 ^ i) ≡ 2 ^ i)
digit-cases a i = go (a / 2 ^ i % 2) (omega arith) (ap (bit_and a) power ∙ and_high a 1 i)
  where
    power : 2 ^ i ≡ 2 ^ (1 + i) - 2 ^ i
    power = omega (arith, pow-suc 2 i, ap (λ (n : ℕ). 2 ^ n) (one-add i))

    go : (d : ℕ) → d < 2 → bit_and a (2 ^ i) ≡ d * 2 ^ i → ((d ≡ 0) × (bit_and a (2 ^ i) ≡ 0)) ⊎ (bit_and a (2 ^ i) ≡ 2 ^ i)
    go zero h e = inl (refl, e ∙ zero-mul (2 ^ i))
    go (suc zero) h e = inr (e ∙ one-mul (2 ^ i))
    go (suc (suc d)) h e = absurd (omega arith)

ones-more : (a i : ℕ) → a / 2 ^ i % 2 ≡ 0 → ones (a + 2 ^ i) ≡ ones a + 1
ones-more a i e =
    let h = a / 2 ^ i in
    let r = a % 2 ^ i in
    let below : r < 2 ^ i = mod-lt a (pow_pos i) in
    let more : (h + 1) * 2 ^ i + r ≡ a + 2 ^ i = omega (arith, split a i, add-mul h 1 (2 ^ i), one-mul (2 ^ i)) in
    let half : ones ((h + 1) / 2) ≡ ones (h / 2) = ap ones (omega arith) in
    omega
    (arith, ap ones (sym (split a i)) ∙ ones_cat i h r below, ap ones (sym more) ∙ ones_cat i (h + 1) r below, ones_step h, ones_step (h + 1), half)

module _ (ws : List ℕ) (k i : ℕ) where
  pub digit-there : (bit_and (get_or ws k 0) (2 ^ i) ≡ 0 → ⊥) → Poured ws ws k (2 ^ i ∷ []) 0
  digit-there n =
      let a = get_or ws k 0 in
      nothing-new ws k (2 ^ i) (⊎_elim (λ w. absurd (n w.1)) (λ e. omega (arith, or_add_and a (2 ^ i))) (digit-cases a i))

  pub digit-new : k < length ws → get_or ws k 0 < 2 ^ 32 → i < 32 → bit_and (get_or ws k 0) (2 ^ i) ≡ 0
      → Poured ws (set ws k (bit_or (get_or ws k 0) (2 ^ i))) k (2 ^ i ∷ []) 1
  digit-new inside old h z =
      let a = get_or ws k 0 in
      let p = new-bits ws k (2 ^ i) inside old (pow-lt h) in
      let one : ones (bit_or a (2 ^ i)) ≡ ones a + 1 =
      ap ones (or_disjoint a (2 ^ i) z)
      ∙ ⊎_elim (λ w. ones-more a i w.0) (λ e. absurd (omega (arith, pow_pos i))) (digit-cases a i)
      in
      record { words = p.words; count = omega (arith, p.count) }

-- ---- a part of a list lent, and put back

-- what is or-ed into the first words does not reach the others
pour-front : (ws : List ℕ) (n k : ℕ) (xs : List ℕ) → k + length xs ≤ n → pour (take n ws) k xs ++ drop n ws ≡ pour ws k xs
unfolding pour
pour-front [] n k xs h = simp (take-nil, drop-nil)
pour-front (w ∷ ws) zero zero [] h = refl
pour-front (w ∷ ws) zero zero (x ∷ xs) h = absurd (omega arith)
pour-front (w ∷ ws) zero (suc k) xs h = absurd (omega arith)
pour-front (w ∷ ws) (suc n) zero [] h = ap (λ (ys : List ℕ). w ∷ ys) (take-append-drop n ws)
pour-front (w ∷ ws) (suc n) zero (x ∷ xs) h = ap (λ (ys : List ℕ). bit_or w x ∷ ys) (pour-front ws n zero xs (omega arith))
pour-front (w ∷ ws) (suc n) (suc k) xs h = ap (λ (ys : List ℕ). w ∷ ys) (pour-front ws n k xs (omega arith))

pour-inside : (ws : List ℕ) (at n k : ℕ) (xs : List ℕ) → k + length xs ≤ n
    → take at ws ++ (pour (take n (drop at ws)) k xs ++ drop n (drop at ws)) ≡ pour ws (at + k) xs
unfolding pour
pour-inside ws zero n k xs h = rw (zero-add k) (pour-front ws n k xs h)
pour-inside [] (suc at) n k xs h = simp (take-nil, drop-nil)
pour-inside (w ∷ ws) (suc at) n k xs h = rw (suc-add at k) (ap (λ (ys : List ℕ). w ∷ ys) (pour-inside ws at n k xs h))

whole : (ws : List ℕ) (at n : ℕ) → take at ws ++ (take n (drop at ws) ++ drop n (drop at ws)) ≡ ws
whole ws at n = ap (λ (ys : List ℕ). take at ws ++ ys) (take-append-drop n (drop at ws)) ∙ take-append-drop at ws

facts-whole : (xs ys zs : List ℕ) → facts (xs ++ (ys ++ zs)) ≡ facts xs + (facts ys + facts zs)
facts-whole xs ys zs = facts-append xs (ys ++ zs) ∙ ap (λ (n : ℕ). facts xs + n) (facts-append ys zs)

-- words or-ed into the n words from `at` on, said of the whole
pub put_back : (ws : List ℕ) (at n : ℕ) (new : List ℕ) (k : ℕ) (xs : List ℕ) (added : ℕ) → Poured (take n (drop at ws)) new k xs added
    → k + length xs ≤ n → Poured ws (take at ws ++ (new ++ drop n (drop at ws))) (at + k) xs added
put_back ws at n new k xs added p h =
    record {
      words = ap (λ (ys : List ℕ). take at ws ++ (ys ++ drop n (drop at ws))) p.words ∙ pour-inside ws at n k xs h;
      count =
          let old : facts ws ≡ facts (take at ws) + (facts (take n (drop at ws)) + facts (drop n (drop at ws))) =
          ap facts (sym (whole ws at n)) ∙ facts-whole (take at ws) (take n (drop at ws)) (drop n (drop at ws))
          in
          omega (arith, p.count, facts-whole (take at ws) new (drop n (drop at ws)));
    }

pub put-back-whole : (ws : List ℕ) (at n : ℕ) (new xs : List ℕ) (added : ℕ) → Poured (take n (drop at ws)) new 0 xs added → length xs ≤ n
    → Poured ws (take at ws ++ (new ++ drop n (drop at ws))) at xs added
put-back-whole ws at n new xs added p h =
    subst (λ (k : ℕ). Poured ws (take at ws ++ (new ++ drop n (drop at ws))) k xs added) (add-zero at)
    (put_back ws at n new 0 xs added p (omega arith))

-- a row of an estimate as a part that is lent
module _ (ws : List ℕ) (at row : ℕ) where
  pub same-part : take (at + row - at) (drop at ws) ≡ take row (drop at ws)
  same-part = let e : at + row - at ≡ row = omega arith in ap (λ (n : ℕ). take n (drop at ws)) e

  pub length-row : at + row ≤ length ws → length (take row (drop at ws)) ≡ row
  length-row h = length-take-le row (drop at ws) (simp length-drop (omega arith))

  pub get_or-row : (i : ℕ) → i < row → get_or (take row (drop at ws)) i 0 ≡ get_or ws (at + i) 0
  get_or-row i h = get_or-take row (drop at ws) i 0 h ∙ get_or-drop at ws i 0

  pub length_part : at + row ≤ length ws → length (take (at + row - at) (drop at ws)) ≡ row
  length_part h = ap length same-part ∙ length-row h

-- ---- masks

pub length-masked : (ms xs : List ℕ) → length ms ≡ length xs → length (masked ms xs) ≡ length xs
unfolding masked
length-masked [] [] e = refl
length-masked [] (x ∷ xs) e = e
length-masked (m ∷ ms) [] e = refl
length-masked (m ∷ ms) (x ∷ xs) e = ap suc (length-masked ms xs (omega arith))

pub length-masked-row : (ms ws : List ℕ) (at row : ℕ) → length ms ≡ row → at + row ≤ length ws → length (masked ms (take row (drop at ws))) ≡ row
length-masked-row ms ws at row e h =
    let n = length-row ws at row h in length-masked ms (take row (drop at ws)) (e ∙ sym n) ∙ n

pub meets_nonzero : (ms xs : List ℕ) → meets ms xs ≡ nonzero (masked ms xs)
unfolding meets nonzero masked
meets_nonzero [] xs = refl
meets_nonzero (m ∷ ms) [] = refl
meets_nonzero (m ∷ ms) (x ∷ xs) = go (eqb (bit_and m x) 0) (meets_nonzero ms xs)
  where
    go : (b : Bool) → meets ms xs ≡ nonzero (masked ms xs) → (not b || meets ms xs) ≡ elim b [ true ↦ nonzero (masked ms xs) | false ↦ true ]
    go true e = e
    go false e = refl

-- a word in common, and none
meets_word : (ms xs : List ℕ) (k : ℕ) → (bit_and (get_or ms k 0) (get_or xs k 0) ≡ 0 → ⊥) → meets ms xs ≡ true
unfolding meets
meets_word [] xs k n = absurd (n (and_zero_l (get_or xs k 0)))
meets_word (m ∷ ms) [] k n = absurd (n (and_zero_r (get_or (m ∷ ms) k 0)))
meets_word (m ∷ ms) (x ∷ xs) zero n = rw (ne_eqb (bit_and m x) 0 n)
meets_word (m ∷ ms) (x ∷ xs) (suc k) n = rw (meets_word ms xs k n) (or-true (not (eqb (bit_and m x) 0)))

meets-none : (ms xs : List ℕ) → ((k : ℕ) → k < length ms → bit_and (get_or ms k 0) (get_or xs k 0) ≡ 0) → meets ms xs ≡ false
unfolding meets
meets-none [] xs h = refl
meets-none (m ∷ ms) [] h = refl
meets-none (m ∷ ms) (x ∷ xs) h = rw (eq-eqb (bit_and m x) 0 (h zero (omega arith)), meets-none ms xs (λ k l. h (suc k) (omega arith)))

pub next-meets : (ms xs : List ℕ) (r : ℕ) → NextCommon ms xs 0 r → ltb r (length ms) ≡ meets ms xs
next-meets ms xs r n = go (dec_lt r (length ms))
  where
    go : Dec (r < length ms) → ltb r (length ms) ≡ meets ms xs
    go (yes h) = lt-ltb r (length ms) h ∙ sym (meets_word ms xs r (n.found h))
    go (no h) = le-ltb r (length ms) (omega arith) ∙ sym (meets-none ms xs (λ k l. n.none k (omega arith) (omega arith)))

-- ---- words of which some are not 0

module _ (ws : List ℕ) (i : ℕ) where
  nonzero-at : i < length ws → nonzero (drop i ws) ≡ (not (eqb (get_or ws i 0) 0) || nonzero (drop (i + 1) ws))
  unfolding nonzero
  nonzero-at h =
      ap nonzero (drop-next ws i h) ∙ go (eqb (get_or ws i 0) 0)
    where
      go : (b : Bool) → (elim b as (λ x. Bool) [ true ↦ nonzero (drop (i + 1) ws) | false ↦ true ]) ≡ (not b || nonzero (drop (i + 1) ws))
      go true = refl
      go false = refl

  -- before i, or from i on
  pub some_at : (m : ℕ) → i < length ws
      → (not (eqb m 0) || nonzero (drop i ws)) ≡ (not (eqb (bit_or m (get_or ws i 0)) 0) || nonzero (drop (i + 1) ws))
  some_at m h =
      let more = not (eqb (get_or ws i 0) 0) in
      let rest = nonzero (drop (i + 1) ws) in
      ap (λ (b : Bool). not (eqb m 0) || b) (nonzero-at h) ∙ or_assoc (not (eqb m 0)) more rest
      ∙ ap (λ (b : Bool). b || rest) (sym (ap not (or-none m (get_or ws i 0)) ∙ not-and (eqb m 0) (eqb (get_or ws i 0) 0)))

  pub some-done : (m : ℕ) → length ws ≤ i → (not (eqb m 0) || nonzero (drop i ws)) ≡ not (eqb m 0)
  unfolding nonzero
  some-done m h = ap (λ (b : Bool). not (eqb m 0) || b) (ap nonzero (drop_of_length-le ws h)) ∙ or-false (not (eqb m 0))
