-- Guessing the word of a line, one byte or one kind after the other.
use Prim.Native.Nat.{ℕ, zero, suc, ◌+◌, ◌-◌, ◌*◌, ◌%◌, ◌^◌, ◌<◌, ◌≤◌}
use mathlib.Core.Path.{◌≡◌, refl, sym, ap, ap₂, ◌∙◌}
use mathlib.Core.Bool.{Bool, true, false, not, ◌&&◌, false≢true}
use mathlib.Core.List.{List, [], ◌∷◌}
use native.Mathlib.Numerals.{add-one}
use native.Mathlib.Omega.{arith}
use lib.Dec.{eqb}
use lib.Pointwise.{pointwise}
use lib.ListN.{length, get_or, drop, drop_of_length-le, get_or-eq_default}
use lib.Seq.{drop-cons, drop-drop, get_or-drop}
use borrow.Author.Tests.{eq-eqb, ne_eqb, eqb-true}
use Rattle.std.specs.List.{starts_with}
use Rattle.listing.specs.declared.keywords.Style.TheVariants.{Hex, Whole, Signed}
use Rattle.listing.specs.Keywords.{Entry, unused, entries, entry_of, used}
use Rattle.listing.specs.Spelling.{prefix, kind_from, guessed_kind, digit_of, folded, guessed_argument, guessed, same, spelled, spells, line_word}

-- ---- how the library compares

pub prefix-starts : (word l : List ℕ) → starts_with eqb l word ≡ prefix word l
unfolding prefix
prefix-starts [] [] = refl
prefix-starts [] (b ∷ bs) = refl
prefix-starts (a ∷ xs) [] = refl
prefix-starts (a ∷ xs) (b ∷ bs) = ap (λ (t : Bool). eqb a b && t) (prefix-starts xs bs)

pub same-equal : (xs l : List ℕ) → pointwise eqb xs l ≡ same xs l
unfolding same
same-equal [] [] = refl
same-equal [] (b ∷ bs) = refl
same-equal (a ∷ xs) [] = refl
same-equal (a ∷ xs) (b ∷ bs) = ap (λ (t : Bool). eqb a b && t) (same-equal xs bs)

-- ---- digits

module _ (base v : ℕ) (l : List ℕ) (i : ℕ) where
  pub folded-end : length l ≤ i → folded base v (drop i l) ≡ v
  unfolding folded
  folded-end h = rw (drop_of_length-le l h)

  pub folded-feed : i < length l → get_or l i 0 ≡ 10 → folded base v (drop i l) ≡ v
  unfolding folded
  folded-feed h e = rw (drop-cons l i 0, eq-eqb (get_or l i 0) 10 e, folded)

  pub folded_more : i < length l → (get_or l i 0 ≡ 10 → ⊥)
      → folded base v (drop i l) ≡ folded base ((v * base + digit_of (get_or l i 0)) % 2 ^ 24) (drop (i + 1) l)
  unfolding folded
  folded_more h n = rw (add-one, drop-cons l i 0, ne_eqb (get_or l i 0) 10 n, folded)

-- ---- kinds

abbrev matches : ℕ → List ℕ → Bool
matches k l = used (entry_of k) && prefix (entry_of k).keyword l

chosen : Bool → ℕ → ℕ → ℕ
chosen true k n = k
chosen false k n = n

kind-step : (k : ℕ) (es : List Entry) (e : Entry) (l : List ℕ) → kind_from k (e ∷ es) l ≡ chosen (used e && prefix e.keyword l) k (kind_from (suc k) es l)
unfolding kind_from chosen
kind-step k es e l = go (used e && prefix e.keyword l)
  where
    go : (b : Bool) → elim b [ true ↦ k | false ↦ kind_from (suc k) es l ] ≡ chosen b k (kind_from (suc k) es l)
    go true = refl
    go false = refl

entries-length : length entries ≡ 37
unfolding entries
entries-length = refl

module _ (k : ℕ) (l : List ℕ) where
  kind-here : k ≤ 36 → kind_from k (drop k entries) l ≡ chosen (matches k l) k (kind_from (k + 1) (drop (k + 1) entries) l)
  unfolding entry_of
  kind-here h =
      let inside : k < length entries = omega (arith, entries-length) in
      ap (λ (es : List Entry). kind_from k es l) (drop-cons entries k unused inside)
      ∙ kind-step k (drop (suc k) entries) (entry_of k) l
      ∙ ap (λ (n : ℕ). chosen (matches k l) k (kind_from n (drop n entries) l)) (sym (add-one k))

  pub kind-found : k ≤ 36 → matches k l ≡ true → kind_from k (drop k entries) l ≡ k
  unfolding chosen
  kind-found h e = kind-here h ∙ ap (λ (b : Bool). chosen b k (kind_from (k + 1) (drop (k + 1) entries) l)) e

  pub kind-next : k ≤ 36 → matches k l ≡ false → kind_from k (drop k entries) l ≡ kind_from (k + 1) (drop (k + 1) entries) l
  unfolding chosen
  kind-next h e = kind-here h ∙ ap (λ (b : Bool). chosen b k (kind_from (k + 1) (drop (k + 1) entries) l)) e

  pub kind-none : 37 ≤ k → kind_from k (drop k entries) l ≡ 0
  unfolding kind_from
  kind-none h = ap (λ (es : List Entry). kind_from k es l) (drop_of_length-le entries {i = k} (omega (arith, entries-length)))

  -- a keyword of no letters is none
  pub unused-no : length (entry_of k).keyword ≡ 0 → false ≡ matches k l
  unfolding used
  unused-no e = ap (λ (b : Bool). not b && prefix (entry_of k).keyword l) (sym (eq-eqb (length (entry_of k).keyword) 0 e))

  pub used-yes : (length (entry_of k).keyword ≡ 0 → ⊥) → prefix (entry_of k).keyword l ≡ matches k l
  unfolding used
  used-yes n = ap (λ (b : Bool). not b && prefix (entry_of k).keyword l) (sym (ne_eqb (length (entry_of k).keyword) 0 n))

-- number 0 is no kind, so no line starts with its keyword
pub unused-first : (k : ℕ) (l : List ℕ) → used (entry_of k) && prefix (entry_of k).keyword l ≡ true → k ≡ 0 → ⊥
unfolding entry_of entries used
unused-first zero l e z = false≢true e
unused-first (suc k) l e z = omega arith

pub kind-start : (l : List ℕ) → guessed_kind l ≡ kind_from 0 (drop 0 entries) l
unfolding guessed_kind
kind-start l = refl

-- ---- arguments

module _ (l : List ℕ) (at : ℕ) where
  pub argument-hex : folded 16 0 (drop (at + 1) l) ≡ guessed_argument Hex (drop at l)
  unfolding guessed_argument
  argument-hex = ap (folded 16 0) (sym (drop-drop 1 at l))

  pub argument-whole : folded 10 0 (drop (at + 1) l) ≡ guessed_argument Whole (drop at l)
  unfolding guessed_argument
  argument-whole = ap (folded 10 0) (sym (drop-drop 1 at l))

  pub argument-minus : get_or l (at + 1) 0 ≡ 45 → (2 ^ 24 - folded 10 0 (drop (at + 2) l)) % 2 ^ 24 ≡ guessed_argument Signed (drop at l)
  unfolding guessed_argument
  argument-minus e =
      rw (get_or-drop at l 1 0, eq-eqb (get_or l (at + 1) 0) 45 e, guessed_argument) (ap (λ (m : List ℕ). (2 ^ 24 - folded 10 0 m) % 2 ^ 24) (sym (drop-drop 2 at l)))

  pub argument-plus : (get_or l (at + 1) 0 ≡ 45 → ⊥) → folded 10 0 (drop (at + 1) l) ≡ guessed_argument Signed (drop at l)
  unfolding guessed_argument
  argument-plus n = rw (get_or-drop at l 1 0, ne_eqb (get_or l (at + 1) 0) 45 n, guessed_argument) (ap (folded 10 0) (sym (drop-drop 1 at l)))

-- no sign stands behind the end
pub no_minus : (l : List ℕ) (i : ℕ) → length l ≤ i → get_or l i 0 ≡ 45 → ⊥
no_minus l i h e = omega (arith, get_or-eq_default l 0 h)

pub guessed-as : (l : List ℕ) (k a n : ℕ) → n ≡ length (entry_of k).keyword → a ≡ guessed_argument (entry_of k).style (drop n l) → k * 2 ^ 24 + a ≡ guessed k l
unfolding guessed
guessed-as l k a n e f =
    ap (λ (x : ℕ). k * 2 ^ 24 + x) (f ∙ ap (λ (m : ℕ). guessed_argument (entry_of k).style (drop m l)) e)

-- ---- the comparison

judged : Bool → ℕ → ℕ
judged true w = w
judged false w = 0

judged-true : (w : ℕ) → judged true w ≡ w
unfolding judged
judged-true w = refl

judged-false : (w : ℕ) → judged false w ≡ 0
unfolding judged
judged-false w = refl

spells-step : (l : List ℕ) (k : ℕ) → (k ≡ 0 → ⊥) → spells l k ≡ judged (same (spelled (guessed k l)) l) (guessed k l)
unfolding spells judged
spells-step l zero n = absurd (n refl)
spells-step l (suc j) n = go (same (spelled (guessed (suc j) l)) l)
  where
    go : (b : Bool) → elim b [ true ↦ guessed (suc j) l | false ↦ 0 ] ≡ judged b (guessed (suc j) l)
    go true = refl
    go false = refl

module _ (l : List ℕ) (k : ℕ) (e : k ≡ guessed_kind l) where
  pub spells-none : k ≡ 0 → line_word l ≡ 0
  unfolding line_word spells
  spells-none z = ap (spells l) (sym e ∙ z)

  spells-kind : (k ≡ 0 → ⊥) → line_word l ≡ judged (same (spelled (guessed k l)) l) (guessed k l)
  unfolding line_word
  spells-kind n = ap (spells l) (sym e) ∙ spells-step l k n

  pub spells-yes : (k ≡ 0 → ⊥) → same (spelled (guessed k l)) l ≡ true → guessed k l ≡ line_word l
  unfolding judged
  spells-yes n p = sym (spells-kind n ∙ ap (λ (b : Bool). judged b (guessed k l)) p)

  pub spells-other : (k ≡ 0 → ⊥) → same (spelled (guessed k l)) l ≡ false → line_word l ≡ 0
  unfolding judged
  spells-other n p = spells-kind n ∙ ap (λ (b : Bool). judged b (guessed k l)) p

-- ---- a line that spells a word is how that word is spelled

same_true : (xs l : List ℕ) → same xs l ≡ true → xs ≡ l
unfolding same
same_true [] [] e = refl
same_true [] (b ∷ bs) e = absurd (false≢true e)
same_true (a ∷ xs) [] e = absurd (false≢true e)
same_true (a ∷ xs) (b ∷ bs) e = go (eqb a b) refl e (same_true xs bs)
  where
    go : (t : Bool) → eqb a b ≡ t → t && same xs bs ≡ true → (same xs bs ≡ true → xs ≡ bs) → a ∷ xs ≡ b ∷ bs
    go true t s rest = ap₂ (λ (x : ℕ) (l : List ℕ). x ∷ l) (eqb-true a b t) (rest s)
    go false t s rest = absurd (false≢true s)

pub spells-sound : (l : List ℕ) → (line_word l ≡ 0 → ⊥) → spelled (line_word l) ≡ l
unfolding line_word
spells-sound l n = kinds (guessed_kind l) refl
  where
    judge : (k : ℕ) (b : Bool) → spells l (guessed_kind l) ≡ judged b (guessed k l) → same (spelled (guessed k l)) l ≡ b → spelled (spells l (guessed_kind l)) ≡ l
    judge k true e s = ap spelled (e ∙ judged-true (guessed k l)) ∙ same_true (spelled (guessed k l)) l s
    judge k false e s = absurd (n (e ∙ judged-false (guessed k l)))

    kinds : (k : ℕ) → guessed_kind l ≡ k → spelled (spells l (guessed_kind l)) ≡ l
    kinds zero e = absurd (n (spells-none l 0 (sym e) refl))
    kinds (suc j) e =
        judge (suc j) (same (spelled (guessed (suc j) l)) l) (ap (spells l) e ∙ spells-step l (suc j) (λ z. omega arith)) refl
