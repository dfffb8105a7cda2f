-- Four words or-ed in at once, and one row of an estimate or-ed into another: what is still to be read of it is as it was.
use Prim.Native.Nat.{ℕ, zero, suc, ◌+◌, ◌-◌, ◌*◌, ◌^◌, ◌≤◌, ◌<◌}
use mathlib.Core.Path.{◌≡◌, refl, sym, ap, ap₂, ◌∙◌, subst}
use mathlib.Core.List.{List, [], ◌∷◌, ◌++◌}
use native.Mathlib.Decide.{dec_lt}
use native.Mathlib.Nat.{mul-le-mul_right, suc-mul}
use native.Mathlib.Omega.{arith}
use lib.Bits.{bit_or, bit_xor, and_le_l, and_le_r, or_lt, xor_lt, or_add_and, xor_add_and}
use lib.Count.{ones, ones-le}
use lib.ListN.{length, length-set, get_or, set, take, drop}
use lib.Seq.{length-take-le, get_or-set_other}
use Rattle.calculus.specs.Layout.{pour}
use Rattle.calculus.proofs.Facts.{pour-nil}
use Rattle.calculus.proofs.Slices.{get_or-pour-before}
use Rattle.rows.specs.Rows.{Poured, Sifted}
use Rattle.rows.proofs.Laws.{pour-then, nothing-new, different-bits, put_back, length-poured, poured-few, length_part, length-row, get_or-row}
use Rattle.rows.proofs.Sifting.{sifted-next, sifted-four}

-- ---- four words

poured-first : (ws old new : List ℕ) (k next x : ℕ) (xs : List ℕ) (m n : ℕ) → next ≡ k + 1 → Poured ws old k (x ∷ []) m → Poured old new next xs n
    → Poured ws new k (x ∷ xs) (m + n)
poured-first ws old new k next x xs m n e p q =
    record {
      words =
          q.words ∙ ap (λ (ys : List ℕ). pour ys next xs) p.words
          ∙ ap (λ (j : ℕ). pour (pour ws k (x ∷ [])) j xs) e ∙ pour-then ws k (x ∷ []) xs;
      count = omega (arith, p.count, q.count);
    }

-- a word that was read before
word-added : (ws : List ℕ) (k x w : ℕ) → get_or ws k 0 ≡ w → k < length ws → w < 2 ^ 32 → x < 2 ^ 32
    → Poured ws (set ws k (bit_or w x)) k (x ∷ []) (ones (bit_xor (bit_or w x) w))
word-added ws k x w e h l m =
    subst (λ (v : ℕ). Poured ws (set ws k (bit_or v x)) k (x ∷ []) (ones (bit_xor (bit_or v x) v))) e
    (different-bits ws k x h (subst (λ (v : ℕ). v < 2 ^ 32) (sym e) l) m)

or-zero : (a b : ℕ) → bit_or a b ≡ 0 → (a ≡ 0) × (b ≡ 0)
or-zero a b e = (omega (arith, or_add_and a b, and_le_l a b, and_le_r a b), omega (arith, or_add_and a b, and_le_l a b, and_le_r a b))

same_word : (w x : ℕ) → bit_xor (bit_or w x) w ≡ 0 → bit_or w x ≡ w
same_word w x e = omega (arith, xor_add_and (bit_or w x) w, and_le_l (bit_or w x) w, and_le_r (bit_or w x) w)

-- the word i with the bits x, and what that adds
abbrev with-bits : List ℕ → ℕ → ℕ → ℕ
with-bits ws i x = bit_or (get_or ws i 0) x

abbrev gain : List ℕ → ℕ → ℕ → ℕ
gain ws i x = bit_xor (with-bits ws i x) (get_or ws i 0)

few-gained : (ws : List ℕ) (i x : ℕ) → get_or ws i 0 < 2 ^ 32 → x < 2 ^ 32 → ones (gain ws i x) ≤ 32
few-gained ws i x h l = ones-le 32 _ (xor_lt 32 (with-bits ws i x) (get_or ws i 0) (or_lt 32 (get_or ws i 0) x h l) h)

module _ (ws : List ℕ) (k a b c d : ℕ) where
  pub none-added : bit_or (bit_or (gain ws k a) (gain ws (k + 1) b)) (bit_or (gain ws (k + 2) c) (gain ws (k + 3) d)) ≡ 0
      → Poured ws ws k (a ∷ b ∷ c ∷ d ∷ []) 0
  none-added e =
      let z = or-zero _ _ e in let low = or-zero _ _ z.0 in let high = or-zero _ _ z.1 in
      poured-first ws ws ws k (k + 1) a _ 0 0 refl (nothing-new ws k a (same_word _ a low.0))
      (poured-first ws ws ws (k + 1) (k + 2) b _ 0 0 (omega arith) (nothing-new ws (k + 1) b (same_word _ b low.1))
      (poured-first ws ws ws (k + 2) (k + 3) c _ 0 0 (omega arith) (nothing-new ws (k + 2) c (same_word _ c high.0))
      (nothing-new ws (k + 3) d (same_word _ d high.1))))

  abbrev pub Few : Type 0
  Few = (ones (gain ws k a) ≤ 32) × (ones (gain ws (k + 1) b) ≤ 32) × (ones (gain ws (k + 2) c) ≤ 32) × (ones (gain ws (k + 3) d) ≤ 32)

  module _ (inside : k + 4 ≤ length ws) (fits : (i : ℕ) → get_or ws i 0 < 2 ^ 32) (ha : a < 2 ^ 32) (hb : b < 2 ^ 32) (hc : c < 2 ^ 32) (hd : d < 2 ^ 32) where
    pub four-few : Few
    four-few = (few-gained ws k a (fits k) ha, few-gained ws (k + 1) b (fits (k + 1)) hb, few-gained ws (k + 2) c (fits (k + 2)) hc, few-gained ws (k + 3) d (fits (k + 3)) hd)

    pub four-added : Poured ws
        (set (set (set (set ws k (with-bits ws k a)) (k + 1) (with-bits ws (k + 1) b)) (k + 2) (with-bits ws (k + 2) c)) (k + 3) (with-bits ws (k + 3) d))
        k (a ∷ b ∷ c ∷ d ∷ []) (ones (gain ws k a) + ones (gain ws (k + 1) b) + (ones (gain ws (k + 2) c) + ones (gain ws (k + 3) d)))
    four-added =
        let w1 = set ws k (with-bits ws k a) in let w2 = set w1 (k + 1) (with-bits ws (k + 1) b) in let w3 = set w2 (k + 2) (with-bits ws (k + 2) c) in
        let l1 : length w1 ≡ length ws = length-set ws k _ in let l2 : length w2 ≡ length ws = length-set w1 (k + 1) _ ∙ l1 in
        let l3 : length w3 ≡ length ws = length-set w2 (k + 2) _ ∙ l2 in
        let old1 : (i : ℕ) → k < i → get_or w1 i 0 ≡ get_or ws i 0 = (λ i h. get_or-set_other ws k i _ 0 (λ e. omega arith)) in
        let old2 : (i : ℕ) → k + 1 < i → get_or w2 i 0 ≡ get_or ws i 0 = (λ i h. get_or-set_other w1 (k + 1) i _ 0 (λ e. omega arith) ∙ old1 i (omega arith)) in
        let old3 : (i : ℕ) → k + 2 < i → get_or w3 i 0 ≡ get_or ws i 0 = (λ i h. get_or-set_other w2 (k + 2) i _ 0 (λ e. omega arith) ∙ old2 i (omega arith)) in
        let p =
        poured-first ws w1 _ k (k + 1) a _ _ _ refl (word-added ws k a _ refl (omega arith) (fits k) ha)
        (poured-first w1 w2 _ (k + 1) (k + 2) b _ _ _ (omega arith) (word-added w1 (k + 1) b _ (old1 (k + 1) (omega arith)) (omega (arith, l1)) (fits (k + 1)) hb)
        (poured-first w2 w3 _ (k + 2) (k + 3) c _ _ _ (omega arith) (word-added w2 (k + 2) c _ (old2 (k + 2) (omega arith)) (omega (arith, l2)) (fits (k + 2)) hc)
        (word-added w3 (k + 3) d _ (old3 (k + 3) (omega arith)) (omega (arith, l3)) (fits (k + 3)) hd)))
        in
        record { words = p.words; count = omega (arith, p.count) }

-- ---- a row of an estimate

get_or-pour-after : (ws : List ℕ) (at : ℕ) (xs : List ℕ) (k : ℕ) → at + length xs ≤ k → get_or (pour ws at xs) k 0 ≡ get_or ws k 0
unfolding pour
get_or-pour-after [] at xs k h = refl
get_or-pour-after (w ∷ ws) zero [] k h = refl
get_or-pour-after (w ∷ ws) zero (x ∷ xs) zero h = absurd (omega arith)
get_or-pour-after (w ∷ ws) zero (x ∷ xs) (suc k) h = get_or-pour-after ws zero xs k (omega arith)
get_or-pour-after (w ∷ ws) (suc at) xs zero h = absurd (omega arith)
get_or-pour-after (w ∷ ws) (suc at) xs (suc k) h = get_or-pour-after ws at xs k (omega arith)

-- where the first words of the row b were written, the row a is as it was behind as many
unread : (ws : List ℕ) (row a b : ℕ) (xs : List ℕ) (k : ℕ) → length xs ≤ k → k < row → get_or (pour ws (b * row) xs) (a * row + k) 0 ≡ get_or ws (a * row + k) 0
unread ws row a b xs k h l = go (dec_lt a b)
  where
    go : Dec (a < b) → get_or (pour ws (b * row) xs) (a * row + k) 0 ≡ get_or ws (a * row + k) 0
    go (yes m) = get_or-pour-before ws (b * row) xs (a * row + k) (omega (arith, suc-mul a row, mul-le-mul_right row m))
    go (no m) = let n : b ≤ a = omega arith in get_or-pour-after ws (b * row) xs (a * row + k) (omega (arith, mul-le-mul_right row n))

-- the row at a place as it is lent, and the estimate when it is back
abbrev pub lent : ℕ → ℕ → List ℕ → List ℕ
lent at row ws = take (at + row - at) (drop at ws)

abbrev pub returned : ℕ → ℕ → List ℕ → List ℕ → List ℕ
returned at row ws last = take at ws ++ (last ++ drop (at + row - at) (drop at ws))

-- What the loops of `join_counting` keep, at the word i: what counts of the words of the row a before i is or-ed into the row b, and that added so many.
pub record Running (counts : ℕ → ℕ → ℕ → Type 0) (row a b : ℕ) (old new : List ℕ) (added i : ℕ) : Type 0 where
  pub words : List ℕ
  pub sifted : Sifted counts (take i (take row (drop (a * row) old))) words
  pub poured : Poured old new (b * row) words added
  pub few : added ≤ 131072 * i

pub none_joined : (counts : ℕ → ℕ → ℕ → Type 0) (row a b : ℕ) (old : List ℕ) → Running counts row a b old old 0 0
none_joined counts row a b old =
    record {
      words = [];
      sifted = record { long = refl; word = λ k h. absurd (omega arith) };
      poured = record { words = sym (pour-nil old (b * row)); count = omega arith };
      few = omega arith;
    }

module _ {counts : ℕ → ℕ → ℕ → Type 0} {row a b : ℕ} {old new : List ℕ} {added i : ℕ} (r : Running counts row a b old new added i) (long : a * row + row ≤ length old) where
  -- a word of the row a that is still to come
  pub unjoined : (k place : ℕ) → i ≤ k → k < row → place ≡ a * row + k → get_or new place 0 ≡ get_or (take row (drop (a * row) old)) k 0
  unjoined k place h l e =
      let xs = take row (drop (a * row) old) in
      let n : length r.words ≡ i = r.sifted.long ∙ length-take-le i xs (omega (arith, length-row old (a * row) row long)) in
      ap₂ (λ (ws : List ℕ) (j : ℕ). get_or ws j 0) r.poured.words e ∙ unread old row a b r.words k (omega (arith, n)) l ∙ sym (get_or-row old (a * row) row k l)

  module _ (wide : b * row + row ≤ length old) (narrow : row < 64) (last : List ℕ) (m : ℕ) where
    -- words more, written into the row as it is lent
    more : (xs : List ℕ) → i + length xs ≤ row → 0 < length xs → Sifted counts (take (i + length xs) (take row (drop (a * row) old))) (r.words ++ xs)
        → Poured (lent (b * row) row new) last i xs m → Running counts row a b old (returned (b * row) row new last) (added + m) (i + length xs)
    more xs h l s p =
        let line = take row (drop (a * row) old) in
        let n : length r.words ≡ i = r.sifted.long ∙ length-take-le i line (omega (arith, length-row old (a * row) row long)) in
        let same = length-poured _ _ _ _ _ r.poured in
        let back = put_back new (b * row) (b * row + row - b * row) last i xs m p (omega arith) in
        record {
          words = r.words ++ xs;
          sifted = s;
          poured = record {
            words =
                back.words ∙ ap (λ (ws : List ℕ). pour ws (b * row + i) xs) r.poured.words
                ∙ ap (λ (j : ℕ). pour (pour old (b * row) r.words) (b * row + j) xs) (sym n) ∙ pour-then old (b * row) r.words xs;
            count = omega (arith, r.poured.count, back.count);
          };
          few = omega (arith, r.few, poured-few _ _ _ _ _ p (omega (arith, length_part new (b * row) row (omega (arith, same)))));
        }

    pub one_more : (w : ℕ) → i < row → counts i (get_or new (a * row + i) 0) w → Poured (lent (b * row) row new) last i (w ∷ []) m
        → Running counts row a b old (returned (b * row) row new last) (added + m) (i + 1)
    one_more w h c p =
        let line = take row (drop (a * row) old) in
        more (w ∷ []) (omega arith) (omega arith)
        (sifted-next counts line i r.words w (omega (arith, length-row old (a * row) row long)) r.sifted
        (subst (λ (x : ℕ). counts i x w) (unjoined i _ (omega arith) h refl) c)) p

    pub four_more : (w x y z : ℕ) → i + 4 ≤ row → counts i (get_or new (a * row + i) 0) w → counts (i + 1) (get_or new (a * row + i + 1) 0) x
        → counts (i + 2) (get_or new (a * row + i + 2) 0) y → counts (i + 3) (get_or new (a * row + i + 3) 0) z
        → Poured (lent (b * row) row new) last i (w ∷ x ∷ y ∷ z ∷ []) m → Running counts row a b old (returned (b * row) row new last) (added + m) (i + 4)
    four_more w x y z h c d e f p =
        let line = take row (drop (a * row) old) in
        more (w ∷ x ∷ y ∷ z ∷ []) h (omega arith)
        (sifted-four counts line i r.words w x y z (omega (arith, length-row old (a * row) row long)) r.sifted
        (subst (λ (u : ℕ). counts i u w) (unjoined i _ (omega arith) (omega arith) refl) c)
        (subst (λ (u : ℕ). counts (i + 1) u x) (unjoined (i + 1) _ (omega arith) (omega arith) (omega arith)) d)
        (subst (λ (u : ℕ). counts (i + 2) u y) (unjoined (i + 2) _ (omega arith) (omega arith) (omega arith)) e)
        (subst (λ (u : ℕ). counts (i + 3) u z) (unjoined (i + 3) _ (omega arith) (omega arith) (omega arith)) f)) p
