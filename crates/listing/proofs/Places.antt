-- The places of refusals are small, and only the last test of the reader looks at the room.
use Prim.Native.Nat.{ℕ, zero, suc, ◌+◌, ◌*◌, ◌<◌, ◌≤◌}
use mathlib.Core.Path.{◌≡◌, refl, sym, ap, ◌∙◌}
use mathlib.Core.Bool.{Bool, true, false}
use mathlib.Core.List.{List, [], ◌∷◌}
use native.Mathlib.Decide.{dec_lt, ℕ_discrete}
use native.Mathlib.Omega.{arith}
use lib.Dec.{eqb, ltb}
use lib.ListN.{length, get_or, take, drop, length-map}
use lib.Seq.{length-take-le, get_or-take, take_all, take_at}
use borrow.Author.Tests.{ltb-false, le-ltb}
use Rattle.table.specs.Scan.{Outcome, accepted, refused, first_of, narrow_reading}
use Rattle.table.specs.Words.{kind}
use Rattle.table.proofs.Refusals.{narrow-bounded, bounded-number, bounded-place}
use Rattle.listing.proofs.Depths.{narrow_size}
use Rattle.listing.specs.Spelling.{feed}
use Rattle.listing.specs.Listing.{Answered, done, refusal, left, most, tested, depths, listing, written, onto, cut, indent, word_in, words_of, indents, misspelled, misplaced, placed, tabled, spelt, read_as}
use Rattle.listing.proofs.Answers.{write-refused, long-one, long-other}
use Rattle.listing.proofs.Cutting.{cut-feed, cut-other}
use Rattle.listing.proofs.Theorems.{read_count, read-accepted}

-- ---- places

pub table-place : (ws : List ℕ) (n p : ℕ) → narrow_reading ws ≡ refused n p → p ≤ length ws
table-place ws n p = bounded-place (length ws) (narrow_reading ws) n p (narrow-bounded ws)

-- the number: one of the table's
pub table-number : (ws : List ℕ) (n p : ℕ) → narrow_reading ws ≡ refused n p → n ≤ 12
table-number ws n p = bounded-number (length ws) (narrow_reading ws) n p (narrow-bounded ws)

-- the place that an answer tells, if it tells one, is at most m
abbrev pub Within : ℕ → Answered → Type 0
Within m (done n) = Unit {0}
Within m (refusal n p) = p ≤ m

tested-within : (m n : ℕ) (ts : List (Bool × ℕ)) → Within m (tested ts n)
unfolding tested
tested-within m n ts = go (first_of ts)
  where
    go : (f : ℕ) → Within m (elim f [ zero ↦ done n | suc k ↦ refusal (suc k) 0 ])
    go zero = tt
    go (suc k) = omega arith

pub write-within : (ws : List ℕ) (room : ℕ) → Within (length ws) (written ws room)
unfolding written
write-within ws room = go (narrow_reading ws) refl
  where
    go : (o : Outcome) → narrow_reading ws ≡ o
        → Within (length ws) (elim o as (λ x. Answered) [
          | refused n p ↦ refusal n p
          | accepted ↦ tested ((ltb most (length (listing ws)), 41) ∷ (ltb room (length (listing ws)), 42) ∷ []) (length (listing ws))
        ])
    go (refused n p) e = table-place ws n p e
    go accepted e = tested-within (length ws) _ _

onto-length : (b : ℕ) (ls : List (List ℕ)) → length (onto b ls) ≤ suc (length ls)
unfolding onto
onto-length b [] = omega arith
onto-length b (l ∷ ls) = omega arith

cut-length : (text : List ℕ) → length (cut text) ≤ length text
unfolding cut
cut-length [] = omega arith
cut-length (b ∷ bs) = go (eqb b feed) refl (cut-length bs)
  where
    go : (t : Bool) → eqb b feed ≡ t → length (cut bs) ≤ length bs → length (cut (b ∷ bs)) ≤ suc (length bs)
    go true t h = omega (arith, ap length (cut-feed b bs t))
    go false t h = omega (arith, ap length (cut-other b bs t), onto-length b (cut bs))

pub words-length : (text : List ℕ) → length (words_of text) ≤ length text
unfolding words_of
words-length text = omega (arith, cut-length text, length-map (cut text) word_in)

misspelled-inside : (n : ℕ) (ws : List ℕ) → 0 < misspelled n ws → misspelled n ws < n + length ws
unfolding misspelled
misspelled-inside n [] h = absurd (omega arith)
misspelled-inside n (zero ∷ ws) h = omega arith
misspelled-inside n (suc w ∷ ws) h = omega (arith, misspelled-inside (suc n) ws h)

misplaced-inside : (n : ℕ) (ds is : List ℕ) → 0 < misplaced n ds is → misplaced n ds is < n + length is
unfolding misplaced
misplaced-inside n [] is h = absurd (omega arith)
misplaced-inside n (d ∷ ds) [] h = absurd (omega arith)
misplaced-inside n (d ∷ ds) (i ∷ is) h = go (eqb i (2 * d)) h (misplaced-inside (suc n) ds is)
  where
    go : (t : Bool) → 0 < (elim t as (λ b. ℕ) [ true ↦ misplaced (suc n) ds is | false ↦ n ])
        → (0 < misplaced (suc n) ds is → misplaced (suc n) ds is < suc n + length is)
        → (elim t as (λ b. ℕ) [ true ↦ misplaced (suc n) ds is | false ↦ n ]) < n + suc (length is)
    go true f rest = omega (arith, rest f)
    go false f rest = omega arith

module _ (ws is : List ℕ) (m : ℕ) (few : length ws ≤ m) (fit : length is ≤ m) (room : ℕ) where
  placed-within : Within m (placed ws is room)
  unfolding placed
  placed-within = go (misplaced 1 (depths ws) is) (misplaced-inside 1 (depths ws) is)
    where
      go : (k : ℕ) → (0 < k → k < 1 + length is)
          → Within m (elim k as (λ x. Answered) [ zero ↦ tested ((ltb room (length ws), 42) ∷ []) (length ws) | suc n ↦ refusal 40 (suc n) ])
      go zero h = tested-within m _ _
      go (suc n) h = omega (arith, h (omega arith))

  tabled-within : Within m (tabled ws is room)
  unfolding tabled
  tabled-within = go (narrow_reading ws) refl
    where
      go : (o : Outcome) → narrow_reading ws ≡ o → Within m (elim o as (λ x. Answered) [ refused n p ↦ refusal n p | accepted ↦ placed ws is room ])
      go (refused n p) e = omega (arith, table-place ws n p e)
      go accepted e = placed-within

  spelt-within : Within m (spelt ws is room)
  unfolding spelt
  spelt-within = go (misspelled 1 ws) (misspelled-inside 1 ws)
    where
      go : (k : ℕ) → (0 < k → k < 1 + length ws) → Within m (elim k as (λ x. Answered) [ zero ↦ tabled ws is room | suc n ↦ refusal 40 (suc n) ])
      go zero h = tabled-within
      go (suc n) h = omega (arith, h (omega arith))

pub indents-length : (text : List ℕ) → length (indents text) ≤ length text
unfolding indents
indents-length text = omega (arith, cut-length text, length-map (cut text) indent)

pub read-within : (text : List ℕ) (room : ℕ) → Within most (read_as text room)
unfolding read_as
read-within text room = go (ltb most (length text)) refl
  where
    go : (t : Bool) → ltb most (length text) ≡ t
        → Within most (elim t as (λ x. Answered) [ true ↦ refusal 41 0 | false ↦ spelt (words_of text) (indents text) room ])
    go true e = omega arith
    go false e =
        let h = ltb-false most (length text) e in
        spelt-within (words_of text) (indents text) most (omega (arith, words-length text, h)) (omega (arith, indents-length text, h)) room

-- ---- a table of more than 1,024 words is refused by its first word alone

many-same : (ws vs : List ℕ) → 1024 < length ws → 1024 < length vs → get_or ws 0 0 ≡ get_or vs 0 0 → narrow_reading ws ≡ narrow_reading vs
many-same ws vs h k e = go (ℕ_discrete (kind (get_or ws 0 0)) 1)
  where
    go : Dec (kind (get_or ws 0 0) ≡ 1) → narrow_reading ws ≡ narrow_reading vs
    go (yes o) = long-one ws h o ∙ sym (long-one vs k (ap kind (sym e) ∙ o))
    go (no n) = long-other ws h n ∙ sym (long-other vs k (λ q. n (ap kind e ∙ q)))

refused-or : (ws : List ℕ) → 1024 < length ws → narrow_reading ws ≡ accepted → ⊥
refused-or ws h e = let l = narrow_size ws e in omega arith

pub reading-first : (ws : List ℕ) → narrow_reading (take 1025 ws) ≡ narrow_reading ws
reading-first ws = go (dec_lt 1024 (length ws))
  where
    go : Dec (1024 < length ws) → narrow_reading (take 1025 ws) ≡ narrow_reading ws
    go (no n) = ap narrow_reading (take_all 1025 ws (omega (arith, n)))
    go (yes h) = many-same (take 1025 ws) ws (omega (arith, length-take-le 1025 ws (omega arith))) h (get_or-take 1025 ws 0 0 (omega arith))

pub write-first : (ws : List ℕ) (room : ℕ) → written (take 1025 ws) room ≡ written ws room
write-first ws room = go (dec_lt 1024 (length ws))
  where
    both : (o : Outcome) → 1024 < length ws → narrow_reading ws ≡ o → written (take 1025 ws) room ≡ written ws room
    both accepted h e = absurd (refused-or ws h e)
    both (refused n p) h e = write-refused (take 1025 ws) room n p (reading-first ws ∙ e) ∙ sym (write-refused ws room n p e)

    go : Dec (1024 < length ws) → written (take 1025 ws) room ≡ written ws room
    go (no n) = ap (λ (v : List ℕ). written v room) (take_all 1025 ws (omega (arith, n)))
    go (yes h) = both (narrow_reading ws) h refl

-- ---- the room

-- an answer given for 1,024 words of room, for another room
unfoldable pub in_room : ℕ → Answered → Answered
in_room room (done n) = tested ((ltb room n, 42) ∷ []) n
in_room room (refusal n p) = refusal n p

tested-done : (room n : ℕ) → n ≤ room → tested ((ltb room n, 42) ∷ []) n ≡ done n
unfolding tested first_of
tested-done room n h = ap (λ (b : Bool). tested ((b, 42) ∷ []) n) (le-ltb room n h)

module _ (ws is : List ℕ) (room : ℕ) where
  placed-room : narrow_reading ws ≡ accepted → placed ws is room ≡ in_room room (placed ws is 1024)
  unfolding placed in_room
  placed-room e = go (misplaced 1 (depths ws) is)
    where
      answer : ℕ → ℕ → Answered
      answer r k = elim k as (λ x. Answered) [ zero ↦ tested ((ltb r (length ws), 42) ∷ []) (length ws) | suc n ↦ refusal 40 (suc n) ]

      go : (k : ℕ) → answer room k ≡ in_room room (answer 1024 k)
      go zero = sym (ap (in_room room) (tested-done 1024 (length ws) (narrow_size ws e)))
      go (suc n) = refl

  tabled-room : tabled ws is room ≡ in_room room (tabled ws is 1024)
  unfolding tabled in_room
  tabled-room = go (narrow_reading ws) refl
    where
      answer : ℕ → Outcome → Answered
      answer r o = elim o as (λ x. Answered) [ refused n p ↦ refusal n p | accepted ↦ placed ws is r ]

      go : (o : Outcome) → narrow_reading ws ≡ o → answer room o ≡ in_room room (answer 1024 o)
      go (refused n p) e = refl
      go accepted e = placed-room e

  spelt-room : spelt ws is room ≡ in_room room (spelt ws is 1024)
  unfolding spelt in_room
  spelt-room = go (misspelled 1 ws)
    where
      answer : ℕ → ℕ → Answered
      answer r k = elim k as (λ x. Answered) [ zero ↦ tabled ws is r | suc n ↦ refusal 40 (suc n) ]

      go : (k : ℕ) → answer room k ≡ in_room room (answer 1024 k)
      go zero = tabled-room
      go (suc n) = refl

pub read-room : (text : List ℕ) (room : ℕ) → read_as text room ≡ in_room room (read_as text 1024)
unfolding read_as in_room
read-room text room = go (ltb most (length text))
  where
    answer : ℕ → Bool → Answered
    answer r t = elim t as (λ x. Answered) [ true ↦ refusal 41 0 | false ↦ spelt (words_of text) (indents text) r ]

    go : (t : Bool) → answer room t ≡ in_room room (answer 1024 t)
    go true = refl
    go false = spelt-room (words_of text) (indents text) room

left-refused : (n p : ℕ) (l m out : List ℕ) → left (refusal n p) l out ≡ left (refusal n p) m out
unfolding left
left-refused n p l m out = refl

-- the same for what is left in the slice
pub write-first-left : (ws : List ℕ) (room : ℕ) (out : List ℕ) → left (written (take 1025 ws) room) (listing (take 1025 ws)) out ≡ left (written ws room) (listing ws) out
write-first-left ws room out = go (dec_lt 1024 (length ws))
  where
    same : left (written (take 1025 ws) room) (listing (take 1025 ws)) out ≡ left (written ws room) (listing (take 1025 ws)) out
    same = ap (λ (a : Answered). left a (listing (take 1025 ws)) out) (write-first ws room)

    both : (o : Outcome) → 1024 < length ws → narrow_reading ws ≡ o → left (written ws room) (listing (take 1025 ws)) out ≡ left (written ws room) (listing ws) out
    both accepted h e = absurd (refused-or ws h e)
    both (refused n p) h e =
        ap (λ (a : Answered). left a (listing (take 1025 ws)) out) (write-refused ws room n p e)
        ∙ left-refused n p (listing (take 1025 ws)) (listing ws) out
        ∙ sym (ap (λ (a : Answered). left a (listing ws) out) (write-refused ws room n p e))

    go : Dec (1024 < length ws) → left (written (take 1025 ws) room) (listing (take 1025 ws)) out ≡ left (written ws room) (listing ws) out
    go (no n) = ap (λ (v : List ℕ). left (written v room) (listing v) out) (take_all 1025 ws (omega (arith, n)))
    go (yes h) = same ∙ both (narrow_reading ws) h refl

-- ---- the words that were read into 1,024 words, and how many they are

pub read-few : (text : List ℕ) (n : ℕ) → read_as text 1024 ≡ done n → n ≤ 1024
read-few text n e = omega (arith, read_count text 1024 n e, narrow_size (words_of text) (read-accepted text 1024 n e))

pub read-words : (text words zeros : List ℕ) (n : ℕ) → read_as text 1024 ≡ done n → words ≡ left (read_as text 1024) (words_of text) zeros
    → take n words ≡ words_of text
unfolding left
read-words text words zeros n e q =
    ap (take n) (q ∙ ap (λ (a : Answered). left a (words_of text) zeros) e) ∙ take_at (words_of text) (drop n zeros) n (sym (read_count text 1024 n e))
