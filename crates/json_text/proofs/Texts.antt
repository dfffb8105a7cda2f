-- The productions of values, by their first byte or by their parts.
-- Assumes nothing.
use Prim.Native.Nat.{ℕ, zero, suc, ◌+◌, ◌<◌, ◌≤◌}
use native.Mathlib.Numerals.{add-one}
use native.Mathlib.Decide.{dec_lt}
use native.Mathlib.Omega.{arith}
use mathlib.Core.Path.{◌≡◌, sym, ap, ap₂, ◌∙◌}
use mathlib.Core.Bool.{Bool, true, false}
use mathlib.Core.List.{List, ◌∷◌}
use lib.Dec.{eqb, leb}
use lib.ListN.{length, get_or, drop, drop_of_length-le}
use lib.Seq.{drop-cons}
use borrow.Author.Tests.{eq-eqb, ne_eqb, le-leb, lt-leb}
use Rattle.json_text.specs.Bytes.{head, tail, Rest, nothing, rest, then, fails, after, space}
use Rattle.json_text.specs.Values.{literal, plain, opens, start, closing, name, separated, item, items, value, over, is_text}
use Rattle.json_text.proofs.Places.{tail-drop}

-- ---- a word, byte by byte

module _ (a : ℕ) (word bs : List ℕ) where
  literal-yes : eqb (head bs) a ≡ true → literal (a ∷ word) bs ≡ literal word (tail bs)
  unfolding literal
  literal-yes e = rw (e, literal)

  literal-no : eqb (head bs) a ≡ false → literal (a ∷ word) bs ≡ nothing
  unfolding literal
  literal-no e = rw (e, literal)

module _ (word text : List ℕ) (i p : ℕ) where
  pub literal-over : length word ≤ i → literal (drop i word) (drop p text) ≡ rest (drop p text)
  unfolding literal
  literal-over h = rw (drop_of_length-le word h)

  module _ (inside : i < length word) (b : ℕ) (read : b ≡ head (drop p text)) where
    pub literal-goes : b ≡ get_or word i 0 → literal (drop i word) (drop p text) ≡ literal (drop (i + 1) word) (drop (p + 1) text)
    literal-goes e =
        ap (λ (w : List ℕ). literal w (drop p text)) (drop-cons word i 0 inside)
        ∙ literal-yes (get_or word i 0) (drop (suc i) word) (drop p text) (eq-eqb (head (drop p text)) (get_or word i 0) (sym read ∙ e))
        ∙ ap₂ literal (ap (λ (n : ℕ). drop n word) (sym (add-one i))) (tail-drop text p)

    pub literal-stops : (b ≡ get_or word i 0 → ⊥) → literal (drop i word) (drop p text) ≡ nothing
    literal-stops n =
        ap (λ (w : List ℕ). literal w (drop p text)) (drop-cons word i 0 inside)
        ∙ literal-no (get_or word i 0) (drop (suc i) word) (drop p text) (ne_eqb (head (drop p text)) (get_or word i 0) (λ e. n (read ∙ e)))

-- ---- items

module _ (k : Bool) (bs : List ℕ) where
  module _ (f : List ℕ → Rest) where
    pub item-none : name k bs ≡ nothing → item f k bs ≡ fails
    unfolding item then
    item-none e = rw e

    pub item-half : (cs : List ℕ) → name k bs ≡ rest cs → f cs ≡ nothing → item f k bs ≡ fails
    unfolding item then
    item-half cs e q = rw (e, q)

    pub item-whole : (cs ds : List ℕ) → name k bs ≡ rest cs → f cs ≡ rest ds → item f k bs ≡ separated k (space ds)
    unfolding item then
    item-whole cs ds e q = rw (e, q)

    pub items-none : eqb (head (space bs)) (closing k) ≡ true → items f k bs ≡ rest (tail (space bs))
    unfolding items
    items-none e = rw (e, items)

    pub items-some : eqb (head (space bs)) (closing k) ≡ false → items f k bs ≡ after (item f k) (space bs)
    unfolding items
    items-some e = rw (e, items)

-- ---- values and texts

module _ (bs : List ℕ) (k : Bool) (cs : List ℕ) (e : start bs ≡ opens k cs) where
  value-zero : value zero bs ≡ nothing
  unfolding value
  value-zero = rw (e, value)

  value-suc : (m : ℕ) → value (suc m) bs ≡ items (value m) k cs
  unfolding value
  value-suc m = rw (e, value)

module _ (bs : List ℕ) where
  pub value-plain : (nest : ℕ) (r : Rest) → start bs ≡ plain r → value nest bs ≡ r
  unfolding value
  value-plain zero r e = rw (e, value)
  value-plain (suc m) r e = rw (e, value)

  module _ (k : Bool) (cs : List ℕ) (e : start bs ≡ opens k cs) where
    pub value-deep : (nest : ℕ) → nest ≡ 0 → value nest bs ≡ nothing
    value-deep nest z = ap (λ (n : ℕ). value n bs) z ∙ value-zero bs k cs e

    pub value-opens : (nest m : ℕ) → nest ≡ suc m → value nest bs ≡ items (value m) k cs
    value-opens nest m z = ap (λ (n : ℕ). value n bs) z ∙ value-suc bs k cs e m

  pub text-ends : (nest : ℕ) (cs : List ℕ) → value nest (space bs) ≡ rest cs → is_text nest bs ≡ over (space cs)
  unfolding is_text
  text-ends nest cs e = rw (e, is_text)

pub over-at : (text : List ℕ) (at : ℕ) → over (drop at text) ≡ leb (length text) at
over-at text at = by (dec_lt at (length text))
  where
    by : Dec (at < length text) → over (drop at text) ≡ leb (length text) at
    by (yes h) = ap over (drop-cons text at 0 h) ∙ sym (lt-leb (length text) at h)
    by (no n) = let h : length text ≤ at = omega arith in ap over (drop_of_length-le text h) ∙ sym (le-leb (length text) at (omega arith))
