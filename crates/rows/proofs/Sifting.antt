-- What counts of the words of a row: one word more, several more, and the list that a function of each word gives.
use Prim.Native.Nat.{ℕ, zero, suc, ◌+◌, ◌-◌, ◌≤◌, ◌<◌}
use mathlib.Core.Path.{◌≡◌, refl, sym, ap, ◌∙◌, subst}
use mathlib.Core.Bool.{Bool, not, ◌||◌}
use mathlib.Core.List.{List, [], ◌∷◌, ◌++◌}
use native.Mathlib.Nat.{add-zero}
use native.Mathlib.Decide.{dec_lt}
use native.Mathlib.Numerals.{add-one}
use native.Mathlib.Omega.{arith}
use lib.Dec.{eqb}
use lib.Bits.{bit_and, bit_or, bit_xor}
use lib.ListN.{length, length-append, get_or, get_or-append, take, drop}
use lib.Seq.{length-take-le, take-suc, get_or-take, get_or-append_right}
use Rattle.std.proofs.lemmas.Grind.{same_number_lists}
use Rattle.rows.specs.Rows.{lacking, Sifted}
use Rattle.calculus.specs.Layout.{masked}
use Rattle.calculus.proofs.Masks.{get_or-masked}
use Rattle.rows.proofs.Laws.{or-false, or_assoc, missing-more, length-row, get_or-row, length-masked}

module _ (counts : ℕ → ℕ → ℕ → Type 0) (xs : List ℕ) (i : ℕ) where
  -- the first i words, and those of ys behind them
  pub sifted-more : (ws ys : List ℕ) → i + length ys ≤ length xs → Sifted counts (take i xs) ws
      → ((k : ℕ) → k < length ys → counts (i + k) (get_or xs (i + k) 0) (get_or ys k 0)) → Sifted counts (take (i + length ys) xs) (ws ++ ys)
  sifted-more ws ys h s more =
      let before : length (take i xs) ≡ i = length-take-le i xs (omega arith) in
      let after : length (take (i + length ys) xs) ≡ i + length ys = length-take-le (i + length ys) xs h in
      let first : length ws ≡ i = s.long ∙ before in
      let word : (k : ℕ) → k < i + length ys → Dec (k < i) → counts k (get_or xs k 0) (get_or (ws ++ ys) k 0) =
      (λ k m d. elim d [
        | yes l ↦ subst (λ (w : ℕ). counts k (get_or xs k 0) w) (sym (get_or-append ws ys 0 k (omega (arith, first))))
            (subst (λ (x : ℕ). counts k x (get_or ws k 0)) (get_or-take i xs k 0 l) (s.word k (omega (arith, before))))
        | no l ↦
            let back : i + (k - i) ≡ k = omega arith in
            subst (λ (w : ℕ). counts k (get_or xs k 0) w) (sym (get_or-append_right ws ys k 0 (omega (arith, first)) ∙ ap (λ (n : ℕ). get_or ys (k - n) 0) first))
            (subst (λ (j : ℕ). counts j (get_or xs j 0) (get_or ys (k - i) 0)) back (more (k - i) (omega arith)))
      ]) in
      record {
        long = omega (arith, length-append ws ys, first, after);
        word = λ k m. let l : k < i + length ys = omega (arith, after) in
            subst (λ (x : ℕ). counts k x (get_or (ws ++ ys) k 0)) (sym (get_or-take (i + length ys) xs k 0 l)) (word k l (dec_lt k i));
      }

  pub sifted-next : (ws : List ℕ) (w : ℕ) → i < length xs → Sifted counts (take i xs) ws → counts i (get_or xs i 0) w → Sifted counts (take (i + 1) xs) (ws ++ w ∷ [])
  sifted-next ws w h s c = sifted-more ws (w ∷ []) (omega arith) s (one w c)
    where
      one : (w : ℕ) → counts i (get_or xs i 0) w → (k : ℕ) → k < 1 → counts (i + k) (get_or xs (i + k) 0) (get_or (w ∷ []) k 0)
      one w c zero h = rw add-zero c
      one w c (suc k) h = absurd (omega arith)

  pub sifted-four : (ws : List ℕ) (a b c d : ℕ) → i + 4 ≤ length xs → Sifted counts (take i xs) ws
      → counts i (get_or xs i 0) a → counts (i + 1) (get_or xs (i + 1) 0) b → counts (i + 2) (get_or xs (i + 2) 0) c → counts (i + 3) (get_or xs (i + 3) 0) d
      → Sifted counts (take (i + 4) xs) (ws ++ a ∷ b ∷ c ∷ d ∷ [])
  sifted-four ws a b c d h s p q r t = sifted-more ws (a ∷ b ∷ c ∷ d ∷ []) h s four
    where
      four : (k : ℕ) → k < 4 → counts (i + k) (get_or xs (i + k) 0) (get_or (a ∷ b ∷ c ∷ d ∷ []) k 0)
      four zero h = rw add-zero p
      four (suc zero) h = q
      four (suc (suc zero)) h = r
      four (suc (suc (suc zero))) h = t
      four (suc (suc (suc (suc k)))) h = absurd (omega arith)

-- what counts of each word, where a function gives it
pub sifted-same : (counts : ℕ → ℕ → ℕ → Type 0) (f : ℕ → ℕ → ℕ) (xs ws zs : List ℕ) → ((k x w : ℕ) → counts k x w → w ≡ f k x) → Sifted counts xs ws
    → length zs ≡ length xs → ((k : ℕ) → k < length xs → get_or zs k 0 ≡ f k (get_or xs k 0)) → ws ≡ zs
sifted-same counts f xs ws zs same s n h =
    same_number_lists ws zs (s.long ∙ sym n) (λ k l. let m : k < length xs = omega (arith, s.long) in same k _ _ (s.word k m) ∙ sym (h k m))

-- ---- what is missing of it

lacking-append : (xs ys : List ℕ) (x y : ℕ) → length xs ≡ length ys → lacking (xs ++ x ∷ []) (ys ++ y ∷ []) ≡ (lacking xs ys || not (eqb (bit_and x y) x))
unfolding lacking
lacking-append [] [] x y e = or-false (not (eqb (bit_and x y) x))
lacking-append [] (z ∷ ys) x y e = absurd (omega arith)
lacking-append (w ∷ xs) [] x y e = absurd (omega arith)
lacking-append (w ∷ xs) (z ∷ ys) x y e =
    ap (λ (b : Bool). not (eqb (bit_and w z) w) || b) (lacking-append xs ys x y (omega arith))
    ∙ or_assoc (not (eqb (bit_and w z) w)) (lacking xs ys) (not (eqb (bit_and x y) x))

-- What the loop of `lacks_counting` keeps, at the word i: m has a digit where what counts of the words before i lacks something.
pub record Missing (counts : ℕ → ℕ → ℕ → Type 0) (xs ys : List ℕ) (i m : ℕ) : Type 0 where
  pub words : List ℕ
  pub sifted : Sifted counts (take i xs) words
  pub lacks : not (eqb m 0) ≡ lacking words (take i ys)

pub missing-none : (counts : ℕ → ℕ → ℕ → Type 0) (xs ys : List ℕ) → Missing counts xs ys 0 0
unfolding lacking
missing-none counts xs ys = record { words = []; sifted = record { long = refl; word = λ k h. absurd (omega arith) }; lacks = refl }

pub missing-next : (counts : ℕ → ℕ → ℕ → Type 0) (xs ys : List ℕ) (i m x : ℕ) → i < length xs → i < length ys → counts i (get_or xs i 0) x → Missing counts xs ys i m
    → Missing counts xs ys (i + 1) (bit_or m (bit_xor x (bit_and x (get_or ys i 0))))
missing-next counts xs ys i m x h l c r =
    let y = get_or ys i 0 in
    let take_one : take (i + 1) ys ≡ take i ys ++ (y ∷ []) = rw add-one (take-suc ys i 0 l) in
    let n : length r.words ≡ length (take i ys) = omega (arith, r.sifted.long, length-take-le i xs (omega arith), length-take-le i ys (omega arith)) in
    record {
      words = r.words ++ x ∷ [];
      sifted = sifted-next counts xs i r.words x h r.sifted c;
      lacks =
          missing-more m x y ∙ ap (λ (b : Bool). b || not (eqb (bit_and x y) x)) r.lacks ∙ sym (lacking-append r.words (take i ys) x y n)
          ∙ ap (λ (zs : List ℕ). lacking (r.words ++ x ∷ []) zs) (sym take_one);
    }

-- the same for two rows of an estimate
pub missing-next-at : (counts : ℕ → ℕ → ℕ → Type 0) (ws : List ℕ) (from to row i m x : ℕ) → from + row ≤ length ws → to + row ≤ length ws → i < row
    → counts i (get_or ws (from + i) 0) x → Missing counts (take row (drop from ws)) (take row (drop to ws)) i m
    → Missing counts (take row (drop from ws)) (take row (drop to ws)) (i + 1) (bit_or m (bit_xor x (bit_and x (get_or ws (to + i) 0))))
missing-next-at counts ws from to row i m x h l e c r =
    let xs = take row (drop from ws) in let ys = take row (drop to ws) in
    subst (λ (y : ℕ). Missing counts xs ys (i + 1) (bit_or m (bit_xor x (bit_and x y)))) (get_or-row ws to row i e)
    (missing-next counts xs ys i m x (omega (arith, length-row ws from row h)) (omega (arith, length-row ws to row l))
    (subst (λ (w : ℕ). counts i w x) (sym (get_or-row ws from row i e)) c) r)

-- ---- where each word counts whole, and where what it has in common with a mask counts

pub whole_row : (counts : ℕ → ℕ → ℕ → Type 0) (xs ws : List ℕ) → ((k x w : ℕ) → counts k x w → w ≡ x) → Sifted counts xs ws → ws ≡ xs
whole_row counts xs ws same s = sifted-same counts (λ k x. x) xs ws xs same s refl (λ k h. refl)

pub masked_row : (counts : ℕ → ℕ → ℕ → Type 0) (mask xs ws : List ℕ) → length mask ≡ length xs → ((k x w : ℕ) → counts k x w → w ≡ bit_and (get_or mask k 0) x)
    → Sifted counts xs ws → ws ≡ masked mask xs
masked_row counts mask xs ws e same s =
    sifted-same counts (λ k x. bit_and (get_or mask k 0) x) xs ws (masked mask xs) same s (length-masked mask xs e) (λ k h. get_or-masked mask xs k)
