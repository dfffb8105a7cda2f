-- Laws of lines: where they start and stop, and the words of the first ones.
use Prim.Native.Nat.{ℕ, zero, suc, ◌+◌, ◌-◌, ◌<◌, ◌≤◌, min}
use mathlib.Core.Path.{◌≡◌, refl, sym, ap, ◌∙◌, subst}
use mathlib.Core.Bool.{Bool, true, false, not, cond}
use Rattle.std.specs.Prelude.{Some, None}
use Rattle.std.specs.List.{position, position_or_len}
use mathlib.Core.List.{List, [], ◌∷◌, ◌++◌, map}
use native.Mathlib.Omega.{arith}
use lib.Dec.{eqb}
use lib.ListN.{length, take, drop, set, length-drop, drop_of_length-le}
use lib.Seq.{take-add, drop-drop}
use Rattle.text.specs.Writing.{Wrote}
use Rattle.text.proofs.Writing.{reworded, then, wrote-byte}
use Rattle.listing.specs.Spelling.{feed}
use Rattle.listing.specs.Listing.{cut, word_in, words_of}
use Rattle.listing.specs.Decoding.{line_size}
use Rattle.listing.proofs.Cutting.{feed-found, feed-none, rest_lines, cut-none}
use Rattle.lines.specs.Lines.{from_line, bare, bare_line, Starts, Stops}

pub from_next : (text : List ℕ) (at left : ℕ) → 0 < left
    → from_line left (drop at text) ≡ from_line (left - 1) (drop (at + line_size (drop at text)) text)
unfolding from_line
from_next text at zero h = absurd (omega arith)
from_next text at (suc m) h =
    let e : m ≡ suc m - 1 = omega arith in
    ap (from_line m) (drop-drop (line_size (drop at text)) at text) ∙ ap (λ (k : ℕ). from_line k (drop (at + line_size (drop at text)) text)) e

-- ---- the bytes before a line feed

bare-by : (l : List ℕ) → length (bare l) ≡ min (position_or_len (λ b. eqb b 10) l) (length l)
unfolding bare
bare-by [] = refl
bare-by (b ∷ bs) = go (eqb b 10) (bare-by bs)
  where
    go : (t : Bool) → length (bare bs) ≡ min (position_or_len (λ b. eqb b 10) bs) (length bs)
        → length {A = ℕ} (elim t [ true ↦ [] | false ↦ b ∷ bare bs ]) ≡ min (cond (not t) (1 + position_or_len (λ b. eqb b 10) bs) 0) (suc (length bs))
    go true h = omega arith
    go false h = omega arith

pub bare-found : (l : List ℕ) (i : ℕ) → position (λ b. eqb b 10) l ≡ Some i → (length (bare l) ≡ i) × (i < length l)
bare-found l i e = let f = feed-found l i e in (omega (arith, bare-by l, f.0, f.1), f.1)

pub bare-none : (l : List ℕ) → position (λ b. eqb b 10) l ≡ None → length (bare l) ≡ length l
bare-none l e = omega (arith, bare-by l, feed-none l e)

bare-taken : (l : List ℕ) → take (length (bare l)) l ≡ bare l
unfolding bare
bare-taken [] = refl
bare-taken (b ∷ bs) = go (eqb b feed) refl (bare-taken bs)
  where
    go : (t : Bool) → eqb b feed ≡ t → take (length (bare bs)) bs ≡ bare bs → take (length (bare (b ∷ bs))) (b ∷ bs) ≡ bare (b ∷ bs)
    go true e h = rw (bare, e)
    go false e h = rw (bare, e) (ap (λ (l : List ℕ). b ∷ l) h)

pub bare-part : (text : List ℕ) (start stop : ℕ) → Stops text start stop → take (stop - start) (drop start text) ≡ bare (drop start text)
bare-part text start stop s = ap (λ (n : ℕ). take n (drop start text)) (sym s.size) ∙ bare-taken (drop start text)

-- line k as a part of the text
pub line-part : (text : List ℕ) (k start stop : ℕ) → Starts text k start → Stops text start stop → take (stop - start) (drop start text) ≡ bare_line k text
unfolding bare_line
line-part text k start stop r s = bare-part text start stop s ∙ ap bare r.rest

-- ---- the words of the first lines

module _ (text : List ℕ) (n at e : ℕ) (more : at < length text) (ends : e ≡ at + line_size (drop at text))
    (so_far : drop n (words_of text) ≡ words_of (drop at text)) where
  abbrev word : ℕ
  word = word_in (take (e - at) (drop at text))

  here : drop n (words_of text) ≡ word ∷ words_of (drop e text)
  unfolding words_of
  here = so_far ∙ ap (map word_in) (rest_lines text n at e more ends)

  pub words-behind : drop (n + 1) (words_of text) ≡ words_of (drop e text)
  words-behind = sym (drop-drop 1 n (words_of text)) ∙ ap (drop 1) here

  pub word-written : {before words : List ℕ} (w : ℕ) → w ≡ word → n < length words → Wrote before 0 (take n (words_of text)) words n
      → Wrote before 0 (take (n + 1) (words_of text)) (set words n w) (n + 1)
  word-written {before} {words} w q h so =
      reworded
      (sym (take-add n 1 (words_of text) ∙ ap (λ (l : List ℕ). take n (words_of text) ++ take 1 l) (here ∙ ap (λ (v : ℕ). v ∷ words_of (drop e text)) (sym q))))
      (then so (wrote-byte words n w h))

pub words-end : (text : List ℕ) (n at : ℕ) → length text ≤ at → drop n (words_of text) ≡ words_of (drop at text) → length (words_of text) ≤ n
unfolding words_of
words-end text n at h e =
    let none : drop n (words_of text) ≡ [] = e ∙ ap (λ (l : List ℕ). map word_in (cut l)) (drop_of_length-le text h) ∙ ap (map word_in) cut-none in
    omega (arith, ap length none, length-drop n (words_of text))

-- ---- the longest line

-- every line has at most `room` bytes, the first at most `left`
unfoldable pub short : (room left : ℕ) → List ℕ → Bool
short room left [] = true
short room zero (b ∷ bs) = elim (eqb b feed) [ true ↦ short room room bs | false ↦ false ]
short room (suc left) (b ∷ bs) = elim (eqb b feed) [ true ↦ short room room bs | false ↦ short room left bs ]

never : {A : Type 0} → false ≡ true → A
never e = let z : ◌≡◌ {A = ℕ} 0 1 = cc in absurd (omega arith)

module _ (b : ℕ) (bs : List ℕ) where
  from-feed : eqb b feed ≡ true → (k : ℕ) → from_line (suc k) (b ∷ bs) ≡ from_line k bs
  unfolding from_line line_size
  from-feed e k = rw (from_line, line_size, e)

  from-other : eqb b feed ≡ false → (k : ℕ) → from_line (suc k) (b ∷ bs) ≡ from_line (suc k) bs
  unfolding from_line line_size
  from-other e k = rw (from_line, line_size, e)

  module _ (room : ℕ) where
    short-feed : (left : ℕ) → eqb b feed ≡ true → short room left (b ∷ bs) ≡ true → short room room bs ≡ true
    unfolding short
    short-feed zero e s = rw (short, e) at s
    short-feed (suc n) e s = rw (short, e) at s

    short-other : (left : ℕ) → eqb b feed ≡ false → short room left (b ∷ bs) ≡ true → (0 < left) × (short room (left - 1) bs ≡ true)
    unfolding short
    short-other zero e s = never (rw (short, e) at s)
    short-other (suc n) e s =
        let m : n ≡ suc n - 1 = omega arith in
        (omega arith, ap (λ (x : ℕ). short room x bs) (sym m) ∙ (rw (short, e) at s))

  bare-here : eqb b feed ≡ true → length (bare (b ∷ bs)) ≡ 0
  unfolding bare
  bare-here e = rw (bare, e)

  bare-next : eqb b feed ≡ false → length (bare (b ∷ bs)) ≡ suc (length (bare bs))
  unfolding bare
  bare-next e = rw (bare, e)

from-none : (k : ℕ) → length (bare (from_line k [])) ≡ 0
unfolding from_line line_size bare
from-none zero = refl
from-none (suc k) = from-none k

module _ (room : ℕ) where
  short-first : (l : List ℕ) (left : ℕ) → short room left l ≡ true → length (bare l) ≤ left
  unfolding bare
  short-first [] left s = omega arith
  short-first (b ∷ bs) left s = go (eqb b feed) refl (short-first bs)
    where
      go : (t : Bool) → eqb b feed ≡ t → ((n : ℕ) → short room n bs ≡ true → length (bare bs) ≤ n) → length (bare (b ∷ bs)) ≤ left
      go true e rest = omega (arith, bare-here b bs e)
      go false e rest = let o = short-other b bs room left e s in omega (arith, bare-next b bs e, rest (left - 1) o.1, o.0)

  short-from : (l : List ℕ) (left : ℕ) → short room left l ≡ true → left ≤ room → (k : ℕ) → length (bare (from_line k l)) ≤ room
  unfolding from_line
  short-from [] left s h k = omega (arith, from-none k)
  short-from (b ∷ bs) left s h zero = omega (arith, short-first (b ∷ bs) left s)
  short-from (b ∷ bs) left s h (suc k) = go (eqb b feed) refl (short-from bs)
    where
      go : (t : Bool) → eqb b feed ≡ t → ((n : ℕ) → short room n bs ≡ true → n ≤ room → (i : ℕ) → length (bare (from_line i bs)) ≤ room)
          → length (bare (from_line (suc k) (b ∷ bs))) ≤ room
      go true e rest =
          subst (λ (l : List ℕ). length (bare l) ≤ room) (sym (from-feed b bs e k)) (rest room (short-feed b bs room left e s) (omega arith) k)
      go false e rest =
          let o = short-other b bs room left e s in
          subst (λ (l : List ℕ). length (bare l) ≤ room) (sym (from-other b bs e k)) (rest (left - 1) o.1 (omega arith) (suc k))

  -- no line is longer
  pub short-line : (l : List ℕ) → short room room l ≡ true → (k : ℕ) → length (bare_line k l) ≤ room
  unfolding bare_line
  short-line l s k = short-from l room s (omega arith) k
