-- The words that a buffer holds of some bytes: as many as it has room for, from the first on.
use Prim.Native.Nat.{ℕ, ◌<◌, ◌≤◌}
use mathlib.Core.Path.{◌≡◌, sym, ap, ◌∙◌}
use mathlib.Core.List.{List, ◌++◌}
use native.Mathlib.Decide.{dec_lt}
use native.Mathlib.Omega.{arith}
use lib.ListN.{length, take, drop}
use lib.Seq.{take_at, take_all, length-take-le}
use Rattle.little_endian.specs.LittleEndian.{words_of, whole_words}
use Rattle.little_endian.proofs.Laws.{length-words_of}

module _ (m : ℕ) (bytes zeros words : List ℕ) (n : ℕ) (long : length zeros ≡ m) (count : n ≡ whole_words bytes zeros)
    (content : words ≡ take n (words_of bytes) ++ drop n zeros) where
  few : n ≤ length (words_of bytes)
  few = omega (arith, length-words_of bytes)

  pub words_size : length (take n words) ≡ n
  words_size =
      ap length (ap (take n) content ∙ take_at (take n (words_of bytes)) (drop n zeros) n (length-take-le n (words_of bytes) few))
      ∙ length-take-le n (words_of bytes) few

  pub words-few : n ≤ m
  words-few = omega arith

  pub words-first : take n words ≡ take m (words_of bytes)
  words-first =
      ap (take n) content
      ∙ take_at (take n (words_of bytes)) (drop n zeros) n (length-take-le n (words_of bytes) few)
      ∙ go (dec_lt m (length (words_of bytes)))
    where
      go : Dec (m < length (words_of bytes)) → take n (words_of bytes) ≡ take m (words_of bytes)
      go (yes h) = let e : n ≡ m = omega (arith, length-words_of bytes) in ap (λ (k : ℕ). take k (words_of bytes)) e
      go (no h) =
          take_all n (words_of bytes) (omega (arith, h, length-words_of bytes)) ∙ sym (take_all m (words_of bytes) (omega (arith, h)))
