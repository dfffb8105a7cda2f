-- What a stream holds, the words of lines taken one by one, and words with a part of one behind them.
use Prim.Native.Nat.{ℕ, zero, suc, ◌+◌, ◌-◌, ◌%◌, ◌≤◌, ◌<◌}
use mathlib.Core.Path.{◌≡◌, refl, sym, ap, ap₂, ◌∙◌}
use mathlib.Core.Bool.{Bool, true, false, ◌&&◌}
use mathlib.Core.List.{List, [], ◌∷◌, ◌++◌, map, append-nil, append_assoc}
use Rattle.std.specs.Prelude.{Option, Some, None}
use native.Mathlib.Numerals.{add-one}
use native.Mathlib.Omega.{arith}
use borrow.Author.Tests.{le-leb, lt-leb}
use lib.Dec.{leb}
use lib.ListN.{length, take, drop, set, length-append, length-set, drop_of_length-le}
use lib.Seq.{take-suc-set, take_at, take_all, length-take-le}
use Rattle.little_endian.specs.LittleEndian.{words_of, whole_words}
use Rattle.little_endian.proofs.Laws.{length-words_of}
use Rattle.listing.specs.Listing.{cut, word_in, most}
use Rattle.listing.specs.Listing.{words_of as line_words}
use Rattle.listing.specs.Decoding.{line_size}
use Rattle.listing.proofs.Cutting.{rest_lines}
use Rattle.packing.specs.Packing.{holds, kept, odd, table_words}
use Rattle.packing.specs.Held.{Held}

-- ---- what a stream holds

and_no : (a b : Bool) → b ≡ false → (a && b) ≡ false
and_no true b e = e
and_no false b e = refl

module _ (bytes : ℕ) (all : List ℕ) where
  pub too_long : most < bytes → holds bytes all ≡ false
  unfolding holds
  too_long h = ap (λ (b : Bool). b && leb (length all) 256) (lt-leb bytes most h)

  pub too_many : 256 < length all → holds bytes all ≡ false
  unfolding holds
  too_many h = and_no (leb bytes most) (leb (length all) 256) (lt-leb (length all) 256 h)

  pub held : bytes ≤ most → length all ≤ 256 → holds bytes all ≡ true
  unfolding holds
  held h k = ap₂ ◌&&◌ (le-leb bytes most h) (le-leb (length all) 256 k)

  pub kept-none : holds bytes all ≡ false → kept bytes all ≡ []
  unfolding kept
  kept-none e = rw (e, kept)

  pub kept-all : holds bytes all ≡ true → kept bytes all ≡ all
  unfolding kept
  kept-all e = rw (e, kept)

pub held-some : (all slice : List ℕ) (n : Option ℕ) → Held all slice n → (k : ℕ) → n ≡ Some k → k ≤ 256
held-some all slice (Some n) h k e = let same : n ≡ k = cc in omega (arith, h.0)
held-some all slice None h k e = absurd (let o : ⊥ = cc in o)

pub few-held : (all slice : List ℕ) (n : ℕ) → length slice ≡ 256 → Held all slice (Some n) → length all ≤ 256
few-held all slice n long h = omega (arith, sym (ap length h.1), length-take-le n slice (omega (arith, h.0)))

-- ---- the words of lines

module _ (text : List ℕ) where
  -- the words of the lines from a byte on
  abbrev pub rest : (at : ℕ) → List ℕ
  rest at = map word_in (cut (drop at text))

  -- n words stand in the slice, and the others are left
  abbrev pub Taken : (words : List ℕ) (n at : ℕ) → Type 0
  Taken words n at = (n ≤ 256) × (length words ≡ 256) × (at ≤ length text) × (take n words ++ rest at ≡ line_words text)

  pub taken_start : (words : List ℕ) → length words ≡ 256 → Taken words 0 0
  unfolding line_words
  taken_start words l = (omega arith, l, omega arith, refl)

  taken-length : (words : List ℕ) (n at : ℕ) → Taken words n at → length (line_words text) ≡ n + length (rest at)
  taken-length words n at t =
      ap length (sym t.3) ∙ length-append (take n words) (rest at)
      ∙ ap (λ (k : ℕ). k + length (rest at)) (length-take-le n words (let a = t.0 in let b = t.1 in omega arith))

  module _ (words : List ℕ) (n at : ℕ) (t : Taken words n at) where
    pub taken-end : length text ≤ at → take n words ≡ line_words text
    unfolding cut
    taken-end h =
        sym (append-nil (take n words))
        ∙ ap (λ (l : List ℕ). take n words ++ map word_in (cut l)) (sym (drop_of_length-le text h))
        ∙ t.3

    module _ (h : at < length text) (e : ℕ) (ends : e ≡ at + line_size (drop at text)) where
      next : rest at ≡ word_in (take (e - at) (drop at text)) ∷ rest e
      next = ap (map word_in) (rest_lines text n at e h ends)

      pub taken_more : n ≡ 256 → 256 < length (line_words text)
      taken_more f = let a = taken-length words n at t in let b = ap length next in omega arith

      pub taken_step : (n ≡ 256 → ⊥) → e ≤ length text → (w : ℕ) → w ≡ word_in (take (e - at) (drop at text)) → Taken (set words n w) (n + 1) e
      taken_step f l w x =
          let a = t.0 in let b = t.1 in
          let small : n < length words = omega arith in (
            omega arith,
            length-set words n w ∙ t.1,
            l,
            ap (λ (k : ℕ). take k (set words n w) ++ rest e) (add-one n)
                ∙ ap (λ (m : List ℕ). m ++ rest e) (take-suc-set words n w small)
                ∙ append_assoc (take n words) (w ∷ []) (rest e)
                ∙ ap (λ (y : ℕ). take n words ++ (y ∷ rest e)) x
                ∙ ap (λ (m : List ℕ). take n words ++ m) (sym next)
                ∙ t.3,
          )

-- ---- whole words, and a part of one

odd-none : (k : ℕ) → k ≡ 0 → odd k ≡ []
unfolding odd
odd-none k e = ap odd e

odd-some : (k : ℕ) → (k ≡ 0 → ⊥) → odd k ≡ 0 ∷ []
unfolding odd
odd-some zero n = absurd (n refl)
odd-some (suc k) n = refl

module _ (bytes : List ℕ) where
  pub table-long : 1024 < length bytes → 256 < length (table_words bytes)
  unfolding table_words
  table-long h = rw length-append (go (length bytes % 4) refl)
    where
      go : (k : ℕ) → length bytes % 4 ≡ k → 256 < length (words_of bytes) + length (odd (length bytes % 4))
      go zero e = let w = length-words_of bytes in omega arith
      go (suc k) e = let o = ap length (odd-some (length bytes % 4) (λ z. omega arith)) in let w = length-words_of bytes in omega arith

  module _ (words after : List ℕ) (n : ℕ) (long : length words ≡ 256) (short : length bytes ≤ 1024) (c : n ≡ whole_words bytes words)
      (r : after ≡ take n (words_of bytes) ++ drop n words) where
    number : n ≡ length (words_of bytes)
    number = let w = length-words_of bytes in omega arith

    read : take n after ≡ words_of bytes
    read =
        ap (take n) r
        ∙ take_at (take n (words_of bytes)) (drop n words) n (length-take-le n (words_of bytes) (let e = number in omega arith))
        ∙ take_all n (words_of bytes) (let e = number in omega arith)

    pub table-whole : length bytes % 4 ≡ 0 → take n after ≡ table_words bytes
    unfolding table_words
    table-whole e = read ∙ sym (append-nil (words_of bytes)) ∙ ap (λ (l : List ℕ). words_of bytes ++ l) (sym (odd-none (length bytes % 4) e))

    pub table-part : (length bytes % 4 ≡ 0 → ⊥) → length after ≡ 256 → n < 256 → take (n + 1) (set after n 0) ≡ table_words bytes
    unfolding table_words
    table-part e l k =
        ap (λ (m : ℕ). take m (set after n 0)) (add-one n)
        ∙ take-suc-set after n 0 (omega arith)
        ∙ ap (λ (m : List ℕ). m ++ 0 ∷ []) read
        ∙ ap (λ (m : List ℕ). words_of bytes ++ m) (sym (odd-some (length bytes % 4) e))

    pub table-few : (length bytes % 4 ≡ 0 → ⊥) → n < 256
    table-few e = let w = length-words_of bytes in let f = number in omega arith
