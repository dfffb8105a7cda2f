-- The answers of writer and reader, case by case.
use Prim.Native.Nat.{ℕ, zero, suc, ◌+◌, ◌*◌, ◌<◌, ◌≤◌}
use mathlib.Core.Path.{◌≡◌, refl, sym, ap, ◌∙◌}
use mathlib.Core.Logic.{◌⊎◌, inl, inr}
use mathlib.Core.Bool.{Bool, true, false, not, ◌||◌, false≢true}
use mathlib.Core.List.{List, [], ◌∷◌}
use native.Mathlib.Decide.{ℕ_discrete}
use native.Mathlib.Numerals.{add-one}
use native.Mathlib.Omega.{arith}
use lib.Dec.{eqb, ltb}
use lib.ListN.{length, get_or}
use borrow.Author.Tests.{lt-ltb, le-ltb, eq-eqb, ne_eqb}
use Rattle.table.specs.Words.{kind, argument, names_of}
use Rattle.table.specs.Scan.{head, accepted, refused, first_of, tests, fault, reading, narrow_reading}
use Rattle.table.proofs.Faults.{one_of}
use Rattle.table.proofs.Stack.{scan-stop}
use Rattle.table.proofs.Widths.{narrow-read, wide-refused}
use Rattle.listing.specs.Listing.{done, refusal, most, tested, depths, listing, written, words_of, indents, misspelled, misplaced, placed, tabled, spelt, read_as}

-- ---- one or two tests

module _ (m k n : ℕ) where
  tested-first : (a b : Bool) → a ≡ true → tested ((a, suc m) ∷ (b, suc k) ∷ []) n ≡ refusal (suc m) 0
  unfolding tested first_of
  tested-first true b e = refl
  tested-first false b e = absurd (false≢true e)

  tested-second : (a b : Bool) → a ≡ false → b ≡ true → tested ((a, suc m) ∷ (b, suc k) ∷ []) n ≡ refusal (suc k) 0
  unfolding tested first_of
  tested-second false true e f = refl
  tested-second true b e f = absurd (false≢true (sym e))
  tested-second false false e f = absurd (false≢true f)

  tested-none : (a b : Bool) → a ≡ false → b ≡ false → tested ((a, suc m) ∷ (b, suc k) ∷ []) n ≡ done n
  unfolding tested first_of
  tested-none false false e f = refl
  tested-none true b e f = absurd (false≢true (sym e))
  tested-none false true e f = absurd (false≢true (sym f))

-- ---- the writer

module _ (ws : List ℕ) (room : ℕ) where
  pub write-refused : (n p : ℕ) → narrow_reading ws ≡ refused n p → written ws room ≡ refusal n p
  unfolding written
  write-refused n p e = rw (e, written)

  module _ (e : narrow_reading ws ≡ accepted) where
    write-tested : written ws room ≡ tested ((ltb most (length (listing ws)), 41) ∷ (ltb room (length (listing ws)), 42) ∷ []) (length (listing ws))
    unfolding written
    write-tested = rw (e, written)

    pub write-long : most < length (listing ws) → written ws room ≡ refusal 41 0
    write-long h = write-tested ∙ tested-first 40 41 _ _ _ (lt-ltb most (length (listing ws)) h)

    pub write-short : length (listing ws) ≤ most → room < length (listing ws) → written ws room ≡ refusal 42 0
    write-short h l =
        write-tested ∙ tested-second 40 41 _ _ _ (le-ltb most (length (listing ws)) h) (lt-ltb room (length (listing ws)) l)

    pub write_done : length (listing ws) ≤ most → length (listing ws) ≤ room → written ws room ≡ done (length (listing ws))
    write_done h l = write-tested ∙ tested-none 40 41 _ _ _ (le-ltb most (length (listing ws)) h) (le-ltb room (length (listing ws)) l)

-- ---- the reader

module _ (n d i : ℕ) (ds is : List ℕ) where
  pub misplaced-here : (i ≡ 2 * d → ⊥) → misplaced n (d ∷ ds) (i ∷ is) ≡ n
  unfolding misplaced
  misplaced-here e = rw (ne_eqb i (2 * d) e, misplaced)

  pub misplaced-next : i ≡ 2 * d → misplaced n (d ∷ ds) (i ∷ is) ≡ misplaced (n + 1) ds is
  unfolding misplaced
  misplaced-next e = rw (eq-eqb i (2 * d) e, misplaced, add-one)

pub misplaced-end : (n : ℕ) (ds is : List ℕ) → (length ds ≡ 0) ⊎ (length is ≡ 0) → misplaced n ds is ≡ 0
unfolding misplaced
misplaced-end n [] is h = refl
misplaced-end n (d ∷ ds) [] h = refl
misplaced-end n (d ∷ ds) (i ∷ is) (inl e) = absurd (omega arith)
misplaced-end n (d ∷ ds) (i ∷ is) (inr e) = absurd (omega arith)

module _ (ws is : List ℕ) (room : ℕ) where
  pub table-refused : (n p : ℕ) → narrow_reading ws ≡ refused n p → tabled ws is room ≡ refusal n p
  unfolding tabled
  table-refused n p e = rw (e, tabled)

  module _ (e : narrow_reading ws ≡ accepted) where
    table-placed : tabled ws is room ≡ placed ws is room
    unfolding tabled
    table-placed = rw (e, tabled)

    pub place-line : (m : ℕ) → misplaced 1 (depths ws) is ≡ m → (m ≡ 0 → ⊥) → tabled ws is room ≡ refusal 40 m
    unfolding placed
    place-line zero f n = absurd (n refl)
    place-line (suc m) f n = table-placed ∙ rw (f, placed)

    fits : misplaced 1 (depths ws) is ≡ 0 → tabled ws is room ≡ tested ((ltb room (length ws), 42) ∷ []) (length ws)
    unfolding placed
    fits f = table-placed ∙ rw (f, placed)

    pub place_short : misplaced 1 (depths ws) is ≡ 0 → room < length ws → tabled ws is room ≡ refusal 42 0
    unfolding tested first_of
    place_short f h = fits f ∙ ap (λ (b : Bool). tested ((b, 42) ∷ []) (length ws)) (lt-ltb room (length ws) h)

    pub place-done : misplaced 1 (depths ws) is ≡ 0 → length ws ≤ room → tabled ws is room ≡ done (length ws)
    unfolding tested first_of
    place-done f h = fits f ∙ ap (λ (b : Bool). tested ((b, 42) ∷ []) (length ws)) (le-ltb room (length ws) h)

  pub spelt-line : (m : ℕ) → misspelled 1 ws ≡ m → (m ≡ 0 → ⊥) → spelt ws is room ≡ refusal 40 m
  unfolding spelt
  spelt-line zero f n = absurd (n refl)
  spelt-line (suc m) f n = rw (f, spelt)

  pub spelt-table : misspelled 1 ws ≡ 0 → spelt ws is room ≡ tabled ws is room
  unfolding spelt
  spelt-table f = rw (f, spelt)

module _ (text : List ℕ) (room : ℕ) where
  pub read-long : most < length text → read_as text room ≡ refusal 41 0
  unfolding read_as
  read-long h = rw (lt-ltb most (length text) h, read_as)

  pub read-spelt : length text ≤ most → read_as text room ≡ spelt (words_of text) (indents text) room
  unfolding read_as
  read-spelt h = rw (le-ltb most (length text) h, read_as)

-- a table of more than 1,024 words
fault-head : (w n : ℕ) (a b : Bool) → not (eqb (kind w) 1 || eqb (kind w) 5) ≡ a → ltb 1024 n ≡ b
    → fault (names_of w) [] w (head n) ≡ first_of ((a, 1) ∷ (b, 2) ∷ (ltb (names_of w) (argument w), 3) ∷ [])
unfolding fault tests
fault-head w n a b e f = rw (e, f)

module _ (w : ℕ) (ws : List ℕ) (h : 1024 < length (w ∷ ws)) where
  many-one : kind w ≡ 1 → narrow_reading (w ∷ ws) ≡ refused 2 0
  unfolding reading first_of
  many-one e =
      narrow-read (w ∷ ws) (ne_eqb (kind w) 5 (λ q. omega arith))
      ∙ scan-stop (names_of w) ws [] w 0 (head (length (w ∷ ws))) [] 1
      (fault-head w (length (w ∷ ws)) false true (ap not (one_of (kind w) (inl e))) (lt-ltb 1024 (length (w ∷ ws)) h))

  many-other : (kind w ≡ 1 → ⊥) → narrow_reading (w ∷ ws) ≡ refused 1 0
  unfolding reading first_of
  many-other n = go (ℕ_discrete (kind w) 5)
    where
      neither : (kind w ≡ 5 → ⊥) → (eqb (kind w) 1 || eqb (kind w) 5) ≡ false
      neither m = rw (ne_eqb (kind w) 1 n, ne_eqb (kind w) 5 m)

      go : Dec (kind w ≡ 5) → narrow_reading (w ∷ ws) ≡ refused 1 0
      go (yes e) = wide-refused (w ∷ ws) (eq-eqb (kind w) 5 e)
      go (no m) =
          narrow-read (w ∷ ws) (ne_eqb (kind w) 5 m)
          ∙ scan-stop (names_of w) ws [] w 0 (head (length (w ∷ ws))) [] 0
          (fault-head w (length (w ∷ ws)) true true (ap not (neither m)) (lt-ltb 1024 (length (w ∷ ws)) h))

pub long-one : (ws : List ℕ) → 1024 < length ws → kind (get_or ws 0 0) ≡ 1 → narrow_reading ws ≡ refused 2 0
long-one [] h e = absurd (omega arith)
long-one (w ∷ ws) h e = many-one w ws h e

pub long-other : (ws : List ℕ) → 1024 < length ws → (kind (get_or ws 0 0) ≡ 1 → ⊥) → narrow_reading ws ≡ refused 1 0
long-other [] h n = absurd (omega arith)
long-other (w ∷ ws) h n = many-other w ws h n
