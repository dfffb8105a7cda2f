-- Laws of two listings, one after the other: where the second starts, and what is printed of the two.
use Prim.Native.Nat.{ℕ, zero, suc, ◌+◌, ◌-◌, ◌<◌, ◌≤◌}
use mathlib.Core.Path.{◌≡◌, refl, sym, ap, ap₂, ◌∙◌}
use mathlib.Core.Bool.{Bool, true, false, ◌&&◌}
use mathlib.Core.List.{List, [], ◌∷◌}
use native.Mathlib.Numerals.{add-one}
use native.Mathlib.Omega.{arith}
use lib.Dec.{eqb}
use lib.ListN.{length, get_or, take, drop, drop_of_length-le}
use lib.Seq.{drop-cons}
use Rattle.listing.specs.Spelling.{feed}
use Rattle.listing.specs.Answer.{number}
use Rattle.listing.specs.declared.Refusal.{Refusal}
use Rattle.listing.specs.declared.Refusal.TheVariants as refusals
use Rattle.listing.specs.Listing.{done, refusal, left, read_as, words_of}
use Rattle.listing.proofs.Cutting.{behind}
use Rattle.listing.proofs.Places.{read-few, read-words}
use Rattle.overlay.specs.Join.{joined, join_answer}
use Rattle.overlay.specs.Join as join
use Rattle.overlay.proofs.Refusals.{number_small as table-number-small}
use Rattle.report.specs.Lines.{refusal_line}
use Rattle.commands.specs.Printed.{starts_system, before, first_listing, second_listing, pair_text, joined_text, listing_text}
use Rattle.commands.specs.Pairs.{Both}

pub past_end : (l : List ℕ) (i : ℕ) → length l ≤ i → get_or l i 0 ≡ 0
past_end [] i h = refl
past_end (b ∷ bs) zero h = absurd (omega arith)
past_end (b ∷ bs) (suc i) h = past_end bs i (omega arith)

pub and-false : (a b : Bool) → b ≡ false → (a && b) ≡ false
and-false true b e = e
and-false false b e = refl

module _ (l : List ℕ) (i : ℕ) where
  pub before-end : (s : Bool) → length l ≤ i → before s (drop i l) ≡ 0
  unfolding before
  before-end s h = rw (drop_of_length-le l h, before)

  module _ (h : i < length l) where
    pub before_here : starts_system (drop i l) ≡ true → before true (drop i l) ≡ 0
    unfolding before
    before_here e = let f = subst-cons e in rw (drop-cons l i 0 h, before, f)
      where
        subst-cons : starts_system (drop i l) ≡ true → starts_system (get_or l i 0 ∷ drop (suc i) l) ≡ true
        subst-cons g = ap starts_system (sym (drop-cons l i 0 h)) ∙ g

    pub before_more : (s : Bool) → (s && starts_system (drop i l)) ≡ false
        → before s (drop i l) ≡ suc (before (eqb (get_or l i 0) feed) (drop (i + 1) l))
    unfolding before
    before_more s e =
        let f : (s && starts_system (get_or l i 0 ∷ drop (suc i) l)) ≡ false = ap (λ (x : List ℕ). s && starts_system x) (sym (drop-cons l i 0 h)) ∙ e in
        rw (add-one, drop-cons l i 0 h, before, f)

-- ---- what is printed of the two

pub number_small : (r : Refusal) → number r ≤ 42
unfolding number
number_small (refusals.Table t) = let h = table-number-small t in omega arith
number_small (refusals.Line n) = omega arith
number_small refusals.TooLong = omega arith
number_small refusals.NoRoom = omega arith

-- two slices of 1,024 words
module _ (first second : List ℕ) (room other : ℕ) (full : room ≡ 1024) (whole : other ≡ 1024) where
  pub first-refused : (n p : ℕ) → read_as first room ≡ refusal n p → (t : List ℕ) → pair_text first second t ≡ refusal_line n p
  unfolding pair_text
  first-refused n p e t = let f = ap (read_as first) (sym full) ∙ e in rw (pair_text, f)

  module _ (m : ℕ) (e : read_as first room ≡ done m) where
    pub second-refused : (n p : ℕ) → read_as second other ≡ refusal n p → (t : List ℕ) → pair_text first second t ≡ refusal_line (100 + n) p
    unfolding pair_text
    second-refused n p f t =
        let g = ap (read_as first) (sym full) ∙ e in
        let h = ap (read_as second) (sym whole) ∙ f in
        rw (pair_text, g, h)

    pub both_read : (under over zeros others : List ℕ) (n : ℕ) → read_as second other ≡ done n → under ≡ left (read_as first room) (words_of first) zeros
        → over ≡ left (read_as second other) (words_of second) others → Both first second under over m n
    unfolding pair_text
    both_read under over zeros others n f q r =
        let g = ap (read_as first) (sym full) ∙ e in
        let h = ap (read_as second) (sym whole) ∙ f in
        record {
          text = λ t. rw (pair_text, g, h);
          base = read-words first under zeros m g (q ∙ ap (λ (k : ℕ). left (read_as first k) (words_of first) zeros) full);
          overlay = read-words second over others n h (r ∙ ap (λ (k : ℕ). left (read_as second k) (words_of second) others) whole);
          few = read-few first m g;
          fit = read-few second n h;
        }

-- the two parts of the input, cut where the second listing starts
module _ (input : List ℕ) (k : ℕ) (e : k ≡ before false input) where
  first-is : take k input ≡ first_listing input
  unfolding first_listing
  first-is = ap (λ (n : ℕ). take n input) e

  second_is : take (length input - k) (drop k input) ≡ second_listing input
  unfolding second_listing
  second_is = behind input k ∙ ap (λ (n : ℕ). drop n input) e

  module _ (f : List ℕ → List ℕ → List ℕ) where
    abbrev whole : List ℕ
    whole = pair_text (first_listing input) (second_listing input) (f (first_listing input) (second_listing input))

    pairs : pair_text (take k input) (take (length input - k) (drop k input)) (f (take k input) (take (length input - k) (drop k input))) ≡ whole
    pairs = ap₂ (λ (x y : List ℕ). pair_text x y (f x y)) first-is second_is

    pub both-text : {under over : List ℕ} {m n : ℕ} → Both (take k input) (take (length input - k) (drop k input)) under over m n
        → f (take k input) (take (length input - k) (drop k input)) ≡ whole
    both-text b = sym (b.text _) ∙ pairs

    pub refused-text : (n p : ℕ) → ((t : List ℕ) → pair_text (take k input) (take (length input - k) (drop k input)) t ≡ refusal_line n p)
        → refusal_line n p ≡ whole
    refused-text n p h = sym (h _) ∙ pairs

module _ (base overlay : List ℕ) where
  pub joined-refused : (n p : ℕ) → join_answer base overlay 1024 ≡ join.refusal n p → refusal_line n p ≡ joined_text base overlay
  unfolding joined_text
  joined-refused n p e = rw (joined_text, e)

  pub joined-listed : (n : ℕ) → join_answer base overlay 1024 ≡ join.written n → listing_text (joined base overlay) ≡ joined_text base overlay
  unfolding joined_text
  joined-listed n e = rw (joined_text, e)
