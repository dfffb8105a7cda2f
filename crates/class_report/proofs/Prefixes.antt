-- What stands at the front of a stream is known from its first bytes: a whole system, and a length that is too long.
use Rattle.std.specs.Prelude.{Result, Option, Ok, Err, Some, None}
use Prim.Native.Nat.{ℕ, ◌+◌, ◌*◌, ◌≤◌, ◌<◌}
use mathlib.Core.Path.{◌≡◌, refl, sym, ap, ap₂, ◌∙◌}
use mathlib.Core.Bool.{Bool, true, false}
use mathlib.Core.List.{List, ◌++◌}
use native.Mathlib.Omega.{arith}
use lib.Dec.{eqb, ltb}
use lib.ListN.{length, take, drop, length-append, length-drop}
use lib.Seq.{take-append-le, drop-append-le}
use borrow.Author.Tests.{ltb-true, ltb-false, eqb-true, eqb-false}
use Rattle.little_endian.specs.LittleEndian.{number as number_of}
use Rattle.class_report.specs.declared.Fault.{Fault}
use Rattle.class_report.specs.declared.Fault.TheVariants.{TooLong, CutShort}
use Rattle.class_report.specs.Stream.{most_words, word_at, span, sized, front, system_at, after}
use Rattle.class_report.proofs.Fronts.{front-nothing, front-short, front-sized, sized-long, sized-short, sized-whole}

-- ---- what a front says of the stream

-- the length word is there; a system is there whole, or its length is over 256
pub record Sized (s : List ℕ) (n : ℕ) : Type 0 where
  pub long : 4 ≤ length s
  pub word : n ≡ word_at 0 s
  pub few : n ≤ most_words
  pub fits : span n ≤ length s

pub record Lengthy (s : List ℕ) : Type 0 where
  pub long : 4 ≤ length s
  pub over : most_words < word_at 0 s

module _ (s : List ℕ) where
  -- the four tests in turn
  pub by_tests : (P : Result (Option ℕ) Fault → Type 0) → (length s ≡ 0 → P (Ok None)) → (length s < 4 → P (Err CutShort)) → (Lengthy s → P (Err TooLong))
      → (length s < span (word_at 0 s) → P (Err CutShort)) → ((n : ℕ) → Sized s n → P (Ok (Some n))) → P (front s)
  by_tests P p q r t u = first (eqb (length s) 0) refl
    where
      fourth : (length s ≡ 0 → ⊥) → 4 ≤ length s → word_at 0 s ≤ most_words → (b : Bool) → ltb (length s) (span (word_at 0 s)) ≡ b → P (front s)
      fourth h l k true e = rw (front-sized s h l, sized-short s (word_at 0 s) k (ltb-true (length s) (span (word_at 0 s)) e)) (t (ltb-true (length s) (span (word_at 0 s)) e))
      fourth h l k false e =
          let f : span (word_at 0 s) ≤ length s = ltb-false (length s) (span (word_at 0 s)) e in
          rw (front-sized s h l, sized-whole s (word_at 0 s) k f) (u (word_at 0 s) (record { long = l; word = refl; few = k; fits = f }))

      third : (length s ≡ 0 → ⊥) → 4 ≤ length s → (b : Bool) → ltb most_words (word_at 0 s) ≡ b → P (front s)
      third h l true e =
          let o : most_words < word_at 0 s = ltb-true most_words (word_at 0 s) e in rw (front-sized s h l, sized-long s (word_at 0 s) o) (r (record { long = l; over = o }))
      third h l false e = fourth h l (ltb-false most_words (word_at 0 s) e) (ltb (length s) (span (word_at 0 s))) refl

      second : (length s ≡ 0 → ⊥) → (b : Bool) → ltb (length s) 4 ≡ b → P (front s)
      second h true e = let l : length s < 4 = ltb-true (length s) 4 e in rw (front-short s h l) (q l)
      second h false e = third h (ltb-false (length s) 4 e) (ltb most_words (word_at 0 s)) refl

      first : (b : Bool) → eqb (length s) 0 ≡ b → P (front s)
      first true e = let z : length s ≡ 0 = eqb-true (length s) 0 e in rw (front-nothing s z) (p z)
      first false e = second (eqb-false (length s) 0 e) (ltb (length s) 4) refl

-- ---- more bytes behind

module _ (s x : List ℕ) where
  word_kept : (at : ℕ) → at + 4 ≤ length s → word_at at (s ++ x) ≡ word_at at s
  unfolding word_at
  word_kept at h =
      ap (λ (l : List ℕ). number_of (take 4 l)) (drop-append-le at s x (omega arith))
      ∙ ap number_of (take-append-le 4 (drop at s) x (omega (arith, length-drop at s)))

  not-empty : 4 ≤ length s → length (s ++ x) ≡ 0 → ⊥
  not-empty h e = omega (arith, length-append s x)

  pub whole-kept : (n : ℕ) → Sized s n → front (s ++ x) ≡ Ok (Some n)
  whole-kept n z =
      let e : word_at 0 (s ++ x) ≡ n = word_kept 0 (omega (arith, z.long)) ∙ sym z.word in
      front-sized (s ++ x) (not-empty z.long) (omega (arith, length-append s x, z.long))
      ∙ ap (sized (s ++ x)) e
      ∙ sized-whole (s ++ x) n z.few (omega (arith, length-append s x, z.fits))

  pub long_kept : Lengthy s → front (s ++ x) ≡ Err TooLong
  long_kept z =
      let e : word_at 0 (s ++ x) ≡ word_at 0 s = word_kept 0 (omega (arith, z.long)) in
      front-sized (s ++ x) (not-empty z.long) (omega (arith, length-append s x, z.long))
      ∙ sized-long (s ++ x) (word_at 0 (s ++ x)) (omega (arith, z.over))

  pub system-kept : (n : ℕ) → span n ≤ length s → system_at (s ++ x) n ≡ system_at s n
  unfolding system_at
  system-kept n h =
      ap₂ (λ (r : ℕ) (b : List ℕ). record { rho = r; bytes = b }) (word_kept 4 (omega arith))
      (ap (take (4 * n)) (drop-append-le 8 s x (omega arith)) ∙ take-append-le (4 * n) (drop 8 s) x (omega (arith, length-drop 8 s)))

  pub after_kept : (n : ℕ) → span n ≤ length s → after (s ++ x) n ≡ after s n ++ x
  after_kept n h = drop-append-le (span n) s x h
