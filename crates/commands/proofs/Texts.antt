-- Laws of the texts of `text` and `words`: by what a call answers, and where the room does not matter.
use Prim.Native.Nat.{ℕ, zero, suc, ◌*◌, ◌%◌, ◌<◌, ◌≤◌}
use mathlib.Core.Path.{◌≡◌, refl, sym, ap, ◌∙◌, subst}
use mathlib.Core.Bool.{Bool}
use mathlib.Core.List.{List, [], ◌∷◌, ◌++◌}
use native.Mathlib.Decide.{dec_lt}
use native.Mathlib.Omega.{arith}
use borrow.Author.Tests.{lt-ltb, le-ltb}
use lib.Dec.{ltb}
use lib.ListN.{length, take, drop}
use lib.Seq.{take_all}
use Rattle.table.specs.Scan.{Outcome, accepted, refused, first_of, narrow_reading}
use Rattle.listing.proofs.Depths.{narrow_size}
use Rattle.text.specs.Writing.{Wrote}
use Rattle.text.proofs.Writing.{reworded}
use Rattle.little_endian.specs.LittleEndian.{words_of, bytes_of, whole_words}
use Rattle.little_endian.proofs.Laws.{length-bytes_of}
use Rattle.listing.specs.Listing.{Answered, done, refusal, left, tested, most, listing, written, read_as}
use Rattle.listing.specs.Listing.{words_of as Listing·words_of}
use Rattle.listing.proofs.Answers.{write-refused}
use Rattle.listing.proofs.Places.{reading-first, read-few, read-words}
use Rattle.listing.proofs.Theorems.{read_count, write-fits}
use Rattle.report.specs.Lines.{refusal_line}
use Rattle.commands.specs.Printed.{answer_text, listing_text, text_text, words_text}

-- a writer on a slice that a call left as it was
pub unchanged : {before middle text after : List ℕ} {at next : ℕ} → middle ≡ before → Wrote middle at text after next → Wrote before at text after next
unchanged {before} {middle} {text} {after} {at} {next} e w = subst (λ (l : List ℕ). Wrote l at text after next) e w

-- a text at the start of a slice
at-start : (text before after : List ℕ) (n : ℕ) → n ≡ length text → n ≤ length before → after ≡ text ++ drop n before → Wrote before 0 text after n
at-start text before after n e f q = record { bytes = q; ends = omega arith; fits = f }

-- ---- words in, their listing out

tested-done : (ts : List (Bool × ℕ)) (m n : ℕ) → tested ts m ≡ done n → m ≡ n
unfolding tested
tested-done ts m n = go (first_of ts)
  where
    go : (f : ℕ) → ◌≡◌ {A = Answered} (elim f [ zero ↦ done m | suc k ↦ refusal (suc k) 0 ]) (done n) → m ≡ n
    go zero e = cc
    go (suc k) e = let z : ◌≡◌ {A = ℕ} 0 1 = cc in absurd (omega arith)

module _ (ws : List ℕ) where
  abbrev answer : (a b : Bool) → Answered
  answer a b = tested ((a, 41) ∷ (b, 42) ∷ []) (length (listing ws))

  abbrev by : (room : ℕ) → Outcome → Answered
  by room (refused n p) = refusal n p
  by room accepted = answer (ltb most (length (listing ws))) (ltb room (length (listing ws)))

  written-by : (room : ℕ) → written ws room ≡ by room (narrow_reading ws)
  unfolding written
  written-by room = go (narrow_reading ws)
    where
      go : (o : Outcome)
          → ◌≡◌ {A = Answered}
          (elim o [ refused n p ↦ refusal n p | accepted ↦ answer (ltb most (length (listing ws))) (ltb room (length (listing ws))) ])
          (by room o)
      go (refused n p) = refl
      go accepted = refl

  -- a slice of the most bytes is as good as a longer one
  write-room : (room : ℕ) → most ≤ room → written ws room ≡ written ws most
  unfolding tested first_of
  write-room room h = written-by room ∙ go (narrow_reading ws) (dec_lt most (length (listing ws))) ∙ sym (written-by most)
    where
      go : (o : Outcome) → Dec (most < length (listing ws)) → by room o ≡ by most o
      go (refused n p) d = refl
      go accepted (yes l) = rw (lt-ltb most (length (listing ws)) l)
      go accepted (no l) =
          let k : length (listing ws) ≤ most = omega (arith, l) in
          let m : length (listing ws) ≤ room = omega arith in
          ap (answer (ltb most (length (listing ws)))) (le-ltb room (length (listing ws)) m ∙ sym (le-ltb most (length (listing ws)) k))

  pub write-count : (room n : ℕ) → written ws room ≡ done n → n ≡ length (listing ws)
  write-count room n e = go (narrow_reading ws) (sym (written-by room) ∙ e)
    where
      go : (o : Outcome) → by room o ≡ done n → n ≡ length (listing ws)
      go (refused k p) f = let z : ◌≡◌ {A = ℕ} 0 1 = cc in absurd (omega arith)
      go accepted f = sym (tested-done _ _ n f)

  module _ (out after : List ℕ) (h : most ≤ length out) (q : after ≡ left (written ws (length out)) (listing ws) out) where
    pub listing-done : (n : ℕ) → written ws (length out) ≡ done n → Wrote out 0 (listing_text ws) after n
    unfolding listing_text answer_text left
    listing-done n e =
        let t : listing_text ws ≡ listing ws = ap (λ (a : Answered). answer_text a (listing ws)) (sym (write-room (length out) h) ∙ e) in
        reworded (sym t)
        (at-start (listing ws) out after n (write-count (length out) n e) (write-fits ws (length out) n e)
        (q ∙ ap (λ (a : Answered). left a (listing ws) out) e))

    module _ (k p : ℕ) (e : written ws (length out) ≡ refusal k p) where
      pub listing-refused : refusal_line k p ≡ listing_text ws
      unfolding listing_text answer_text
      listing-refused = sym (ap (λ (a : Answered). answer_text a (listing ws)) (sym (write-room (length out) h) ∙ e))

      pub listing-left : after ≡ out
      unfolding left
      listing-left = q ∙ ap (λ (a : Answered). left a (listing ws) out) e

-- of more than 1,024 words the first 1,025 decide what a refusal decides
pub first-decides : (f : List ℕ → List ℕ) (g : (n p : ℕ) → List ℕ) → ((vs : List ℕ) (n p : ℕ) → written vs most ≡ refusal n p → f vs ≡ g n p)
    → (ws : List ℕ) → f (take 1025 ws) ≡ f ws
first-decides f g h ws = go (narrow_reading ws) refl
  where
    go : (o : Outcome) → narrow_reading ws ≡ o → f (take 1025 ws) ≡ f ws
    go (refused n p) e =
        h (take 1025 ws) n p (write-refused (take 1025 ws) most n p (reading-first ws ∙ e)) ∙ sym (h ws n p (write-refused ws most n p e))
    go accepted e = ap f (take_all 1025 ws (omega (arith, narrow_size ws e)))

pub listing-first : (ws : List ℕ) → listing_text (take 1025 ws) ≡ listing_text ws
unfolding listing_text answer_text
listing-first ws = first-decides listing_text refusal_line (λ vs n p e. ap (λ (a : Answered). answer_text a (listing vs)) e) ws

module _ (input : List ℕ) where
  pub text-even : length input % 4 ≡ 0 → listing_text (words_of input) ≡ text_text input
  unfolding text_text
  text-even e = rw (text_text, e)

  pub text-odd : (length input % 4 ≡ 0 → ⊥) → refusal_line 30 0 ≡ text_text input
  unfolding text_text
  text-odd h = go (length input % 4) h
    where
      go : (k : ℕ) → (k ≡ 0 → ⊥) → ◌≡◌ {A = List ℕ} (refusal_line 30 0) (elim k [ zero ↦ listing_text (words_of input) | suc n ↦ refusal_line 30 0 ])
      go zero g = absurd (g refl)
      go (suc n) g = refl

-- ---- a listing in, its words out

module _ (text : List ℕ) where
  pub words-refused : (n p : ℕ) → read_as text 1024 ≡ refusal n p → refusal_line n p ≡ words_text text
  unfolding words_text answer_text
  words-refused n p e = sym (ap (λ (a : Answered). answer_text a (bytes_of (Listing·words_of text))) e)

  module _ (words zeros out after : List ℕ) (n k : ℕ) (e : read_as text 1024 ≡ done n) (q : words ≡ left (read_as text 1024) (Listing·words_of text) zeros)
      (h : most ≤ length out) (c : k ≡ whole_words out (take n words)) where
    count : k ≡ n
    count =
        omega (arith, c, ap length (read-words text words zeros n e q), read_count text 1024 n e, read-few text n e)

    pub words-done : after ≡ bytes_of (take k (take n words)) ++ drop (4 * k) out → Wrote out 0 (words_text text) after (4 * k)
    unfolding words_text answer_text
    words-done w =
        let t : words_text text ≡ bytes_of (Listing·words_of text) = ap (λ (a : Answered). answer_text a (bytes_of (Listing·words_of text))) e in
        let m = read_count text 1024 n e in
        let ws : take k (take n words) ≡ Listing·words_of text =
        ap (take k) (read-words text words zeros n e q) ∙ take_all k (Listing·words_of text) (omega (arith, count, m)) in
        reworded (sym t)
        (at-start (bytes_of (Listing·words_of text)) out after (4 * k) (omega (arith, length-bytes_of (Listing·words_of text), count, m))
        (omega (arith, count, read-few text n e)) (w ∙ ap (λ (l : List ℕ). bytes_of l ++ drop (4 * k) out) ws))
