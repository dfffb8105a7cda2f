-- What stands at the front of a stream, as the code tests it.
use Rattle.std.specs.Prelude.{Ok, Err, Some, None}
use Prim.Native.Nat.{ℕ, suc, ◌+◌, ◌≤◌, ◌<◌}
use mathlib.Core.Path.{◌≡◌, refl, sym, ap}
use mathlib.Core.List.{List, [], ◌∷◌}
use native.Mathlib.Omega.{arith}
use lib.ListN.{length, get_or, take, drop}
use lib.Seq.{drop-cons}
use borrow.Author.Tests.{lt-ltb, le-ltb, eq-eqb, ne_eqb}
use Rattle.little_endian.specs.LittleEndian.{number as number_of}
use Rattle.class_report.specs.declared.Fault.TheVariants.{TooLong, CutShort}
use Rattle.class_report.specs.Stream.{word_at, span, most_words, sized, front}

-- the four bytes of a word
pub four_bytes : (s : List ℕ) (at : ℕ) → at + 4 ≤ length s
    → number_of (get_or s at 0 ∷ get_or s (at + 1) 0 ∷ get_or s (at + 2) 0 ∷ get_or s (at + 3) 0 ∷ []) ≡ word_at at s
unfolding word_at
four_bytes s at h =
    let a : at + 1 ≡ suc at = omega arith in
    let b : at + 2 ≡ suc (suc at) = omega arith in
    let c : at + 3 ≡ suc (suc (suc at)) = omega arith in
    let e : drop at s ≡ get_or s at 0 ∷ get_or s (at + 1) 0 ∷ get_or s (at + 2) 0 ∷ get_or s (at + 3) 0 ∷ drop (suc (suc (suc (suc at)))) s =
    rw (a, b, c, drop-cons s at 0 (omega arith), drop-cons s (suc at) 0 (omega arith), drop-cons s (suc (suc at)) 0 (omega arith), drop-cons s (suc (suc (suc at))) 0 (omega arith)) refl in
    sym (ap (λ (l : List ℕ). number_of (take 4 l)) e)

module _ (s : List ℕ) where
  pub front-nothing : length s ≡ 0 → front s ≡ Ok None
  unfolding front
  front-nothing h = rw (eq-eqb (length s) 0 h, front)

  module _ (h : length s ≡ 0 → ⊥) where
    pub front-short : length s < 4 → front s ≡ Err CutShort
    unfolding front
    front-short l = rw (ne_eqb (length s) 0 h, lt-ltb (length s) 4 l, front)

    pub front-sized : 4 ≤ length s → front s ≡ sized s (word_at 0 s)
    unfolding front
    front-sized l = rw (ne_eqb (length s) 0 h, le-ltb (length s) 4 l, front)

  module _ (size : ℕ) where
    pub sized-long : most_words < size → sized s size ≡ Err TooLong
    unfolding sized
    sized-long l = rw (lt-ltb most_words size l, sized)

    pub sized-short : size ≤ most_words → length s < span size → sized s size ≡ Err CutShort
    unfolding sized
    sized-short k l = rw (le-ltb most_words size k, lt-ltb (length s) (span size) l, sized)

    pub sized-whole : size ≤ most_words → span size ≤ length s → sized s size ≡ Ok (Some size)
    unfolding sized
    sized-whole k l = rw (le-ltb most_words size k, le-ltb (length s) (span size) l, sized)
