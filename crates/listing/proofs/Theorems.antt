-- What writer and reader are for: an accepted system has one text, reading it gives the same words, and the reader accepts no other text.
use Prim.Native.Nat.{ℕ, zero, suc, ◌≤◌}
use mathlib.Core.Path.{◌≡◌, refl, sym, ap, ap₂, ◌∙◌}
use mathlib.Core.Bool.{Bool, true, false}
use mathlib.Core.List.{List, [], ◌∷◌}
use native.Mathlib.Omega.{arith}
use lib.Dec.{ltb}
use lib.ListN.{length}
use borrow.Author.Tests.{ltb-false}
use Rattle.table.specs.Scan.{Outcome, accepted, refused, first_of, narrow_reading}
use Rattle.listing.specs.Listing.{Answered, done, refusal, most, tested, depths, listing, written, words_of, indents, misspelled, misplaced, placed, tabled, spelt, read_as}
use Rattle.listing.proofs.Depths.{depths-length}
use Rattle.listing.proofs.Answers.{read-spelt, spelt-table, place-done}
use Rattle.listing.proofs.Texts.{doubled, words-undone, spaces-undone, none-misspelled, none-misplaced, all_known, text-sound}

module _ (ws : List ℕ) (e : narrow_reading ws ≡ accepted) where
  -- the words that are read from the text of an accepted system are its words
  pub words-of-listing : words_of (listing ws) ≡ ws
  unfolding listing words_of
  words-of-listing = words-undone (depths ws) ws (depths-length ws e) (all_known ws e)

  spaces-of-listing : indents (listing ws) ≡ doubled (depths ws)
  unfolding listing indents
  spaces-of-listing = spaces-undone (depths ws) ws (depths-length ws e) (all_known ws e)

  -- an accepted system whose text fits: reading that text gives the same words
  pub read-listing : (room : ℕ) → length (listing ws) ≤ most → length ws ≤ room → read_as (listing ws) room ≡ done (length ws)
  read-listing room h r =
      read-spelt (listing ws) room h
      ∙ ap₂ (λ (v is : List ℕ). spelt v is room) words-of-listing spaces-of-listing
      ∙ spelt-table ws (doubled (depths ws)) room (none-misspelled 1 ws (all_known ws e))
      ∙ place-done ws (doubled (depths ws)) room e (none-misplaced 1 (depths ws)) r

-- ---- what is accepted

not_done : {n p m : ℕ} → refusal n p ≡ done m → ⊥
not_done q = let z : ◌≡◌ {A = ℕ} 0 1 = cc in omega arith

spelt-done : (text : List ℕ) (room n : ℕ) → read_as text room ≡ done n → spelt (words_of text) (indents text) room ≡ done n
unfolding read_as
spelt-done text room n q = go (ltb most (length text)) q
  where
    go : (t : Bool) → ◌≡◌ {A = Answered} (elim t [ true ↦ refusal 41 0 | false ↦ spelt (words_of text) (indents text) room ]) (done n) → spelt (words_of text) (indents text) room ≡ done n
    go true f = absurd (not_done f)
    go false f = f

module _ (ws is : List ℕ) (room n : ℕ) where
  spelt-fine : spelt ws is room ≡ done n → (misspelled 1 ws ≡ 0) × (tabled ws is room ≡ done n)
  unfolding spelt
  spelt-fine q = go (misspelled 1 ws) refl q
    where
      go : (m : ℕ) → misspelled 1 ws ≡ m → ◌≡◌ {A = Answered} (elim m [ zero ↦ tabled ws is room | suc k ↦ refusal 40 (suc k) ]) (done n)
          → (misspelled 1 ws ≡ 0) × (tabled ws is room ≡ done n)
      go zero f g = (f, g)
      go (suc k) f g = absurd (not_done g)

  tabled-fine : tabled ws is room ≡ done n → (narrow_reading ws ≡ accepted) × (placed ws is room ≡ done n)
  unfolding tabled
  tabled-fine q = go (narrow_reading ws) refl q
    where
      go : (o : Outcome) → narrow_reading ws ≡ o → ◌≡◌ {A = Answered} (elim o [ refused a b ↦ refusal a b | accepted ↦ placed ws is room ]) (done n)
          → (narrow_reading ws ≡ accepted) × (placed ws is room ≡ done n)
      go accepted f g = (f, g)
      go (refused a b) f g = absurd (not_done g)

  tested-count : (b : Bool) → tested ((b, 42) ∷ []) (length ws) ≡ done n → n ≡ length ws
  unfolding tested first_of
  tested-count true q = absurd (not_done q)
  tested-count false q = cc

  placed-fine : placed ws is room ≡ done n → (misplaced 1 (depths ws) is ≡ 0) × (n ≡ length ws)
  unfolding placed
  placed-fine q = go (misplaced 1 (depths ws) is) refl q
    where
      go : (m : ℕ) → misplaced 1 (depths ws) is ≡ m → ◌≡◌ {A = Answered} (elim m [ zero ↦ tested ((ltb room (length ws), 42) ∷ []) (length ws) | suc k ↦ refusal 40 (suc k) ]) (done n)
          → (misplaced 1 (depths ws) is ≡ 0) × (n ≡ length ws)
      go zero f g = (f, tested-count (ltb room (length ws)) g)
      go (suc k) f g = absurd (not_done g)

module _ (text : List ℕ) (room n : ℕ) (q : read_as text room ≡ done n) where
  fine : (misspelled 1 (words_of text) ≡ 0) × (tabled (words_of text) (indents text) room ≡ done n)
  fine = spelt-fine (words_of text) (indents text) room n (spelt-done text room n q)

  table : (narrow_reading (words_of text) ≡ accepted) × (placed (words_of text) (indents text) room ≡ done n)
  table = tabled-fine (words_of text) (indents text) room n fine.1

  -- the words that are read are an accepted system
  pub read-accepted : narrow_reading (words_of text) ≡ accepted
  read-accepted = table.0

  -- the reader accepts a text only if the writer makes it
  pub read-written : listing (words_of text) ≡ text
  unfolding listing
  read-written =
      text-sound text (depths (words_of text)) (depths-length (words_of text) read-accepted) fine.0
      (placed-fine (words_of text) (indents text) room n table.1).0

  -- and as many words are written as it has
  pub read_count : n ≡ length (words_of text)
  read_count = (placed-fine (words_of text) (indents text) room n table.1).1

-- two accepted texts of one system are the same
pub one-text : (text other : List ℕ) (room room' n n' : ℕ) → read_as text room ≡ done n → read_as other room' ≡ done n' → words_of text ≡ words_of other → text ≡ other
one-text text other room room' n n' q q' e = sym (read-written text room n q) ∙ ap listing e ∙ read-written other room' n' q'

-- ---- an answer that tells a count has room for it

last-refused : (n : ℕ) → tested ((true, 42) ∷ []) n ≡ refusal 42 0
unfolding tested first_of
last-refused n = refl

first-refused : (b : Bool) (n : ℕ) → tested ((true, 41) ∷ (b, 42) ∷ []) n ≡ refusal 41 0
unfolding tested first_of
first-refused b n = refl

second-refused : (n : ℕ) → tested ((false, 41) ∷ (true, 42) ∷ []) n ≡ refusal 42 0
unfolding tested first_of
second-refused n = refl

none-refused : (n m : ℕ) → tested ((false, 41) ∷ (false, 42) ∷ []) n ≡ done m → n ≡ m
unfolding tested first_of
none-refused n m q = cc

pub read_fits : (text : List ℕ) (room n : ℕ) → read_as text room ≡ done n → n ≤ room
unfolding placed
read_fits text room n q = go (misplaced 1 (depths (words_of text)) (indents text)) (table text room n q).1
  where
    last : (b : Bool) → ltb room (length (words_of text)) ≡ b → tested ((b, 42) ∷ []) (length (words_of text)) ≡ done n → n ≤ room
    last true e f = absurd (not_done (sym (last-refused (length (words_of text))) ∙ f))
    last false e f = omega (arith, ltb-false room (length (words_of text)) e, read_count text room n q)

    go : (m : ℕ) → ◌≡◌ {A = Answered} (elim m [ zero ↦ tested ((ltb room (length (words_of text)), 42) ∷ []) (length (words_of text)) | suc k ↦ refusal 40 (suc k) ]) (done n) → n ≤ room
    go zero f = last (ltb room (length (words_of text))) refl f
    go (suc k) f = absurd (not_done f)

pub write-fits : (ws : List ℕ) (room n : ℕ) → written ws room ≡ done n → n ≤ room
unfolding written
write-fits ws room n q = go (narrow_reading ws) q
  where
    tests : (a b : Bool) → ltb room (length (listing ws)) ≡ b → tested ((a, 41) ∷ (b, 42) ∷ []) (length (listing ws)) ≡ done n → n ≤ room
    tests true b e f = absurd (not_done (sym (first-refused b (length (listing ws))) ∙ f))
    tests false true e f = absurd (not_done (sym (second-refused (length (listing ws))) ∙ f))
    tests false false e f = let m : length (listing ws) ≡ n = none-refused (length (listing ws)) n f in omega (arith, ltb-false room (length (listing ws)) e)

    go : (o : Outcome) → ◌≡◌ {A = Answered} (elim o [
      | refused a b ↦ refusal a b
      | accepted ↦ tested ((ltb most (length (listing ws)), 41) ∷ (ltb room (length (listing ws)), 42) ∷ []) (length (listing ws))
    ]) (done n) → n ≤ room
    go accepted f = tests (ltb most (length (listing ws))) (ltb room (length (listing ws))) refl f
    go (refused a b) f = absurd (not_done f)
