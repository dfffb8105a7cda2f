-- A text cut into lines, one line after the other.
use Prim.Native.Nat.{ℕ, zero, suc, ◌+◌, ◌-◌, ◌<◌, ◌≤◌, min}
use mathlib.Core.Path.{◌≡◌, refl, sym, ap, ◌∙◌}
use mathlib.Core.Bool.{Bool, true, false, not, cond}
use mathlib.Core.List.{List, [], ◌∷◌, map}
use native.Mathlib.Nat.{add-zero}
use native.Mathlib.Numerals.{add-one}
use native.Mathlib.Omega.{arith}
use lib.Dec.{eqb, ltb}
use lib.ListN.{length, get_or, take, drop, set, length-drop, length-map, drop_of_length-le}
use lib.Seq.{take_all, drop-drop, get_or-drop, get_or-take}
use borrow.Author.Tests.{ltb-true, ltb-false}
use Rattle.std.specs.Prelude.{Option, None, Some}
use Rattle.std.specs.List.{position, position_or_len, prefix_len, take_while}
use Rattle.std.proofs.lemmas.List.Folds.{length-prefix_len}
use Rattle.listing.specs.Spelling.{feed}
use Rattle.listing.specs.Listing.{onto, cut, indent, word_in, words_of, indents, misspelled}
use Rattle.listing.specs.Decoding.{line_size, Taken}
use Rattle.listing.proofs.Taken.{taken_more}

-- ---- the end of a line and its leading spaces, as the library finds them

size-by : (l : List ℕ) → line_size l ≡ min (position_or_len (λ b. eqb b 10) l + 1) (length l)
unfolding line_size
size-by [] = refl
size-by (b ∷ bs) = go (eqb b 10) (size-by bs)
  where
    go : (t : Bool) → line_size bs ≡ min (position_or_len (λ b. eqb b 10) bs + 1) (length bs)
        → elim t [ true ↦ 1 | false ↦ suc (line_size bs) ] ≡ min (cond (not t) (1 + position_or_len (λ b. eqb b 10) bs) 0 + 1) (suc (length bs))
    go true h = omega arith
    go false h = omega arith

-- where the first line feed stands
module _ (l : List ℕ) where
  pub feed-found : (i : ℕ) → position (λ b. eqb b 10) l ≡ Some i → (position_or_len (λ b. eqb b 10) l ≡ i) × (i < length l)
  feed-found i e = go (ltb (position_or_len (λ b. eqb b 10) l) (length l)) refl e
    where
      go : (t : Bool) → ltb (position_or_len (λ b. eqb b 10) l) (length l) ≡ t → ◌≡◌ {A = Option ℕ} (cond t (Some (position_or_len (λ b. eqb b 10) l)) None) (Some i)
          → (position_or_len (λ b. eqb b 10) l ≡ i) × (i < length l)
      go true t f =
          let same : position_or_len (λ b. eqb b 10) l ≡ i = cc in
          (same, omega (arith, ltb-true _ _ t))
      go false t f = absurd (let o : ⊥ = cc in o)

  pub feed-none : position (λ b. eqb b 10) l ≡ None → length l ≤ position_or_len (λ b. eqb b 10) l
  feed-none e = go (ltb (position_or_len (λ b. eqb b 10) l) (length l)) refl e
    where
      go : (t : Bool) → ltb (position_or_len (λ b. eqb b 10) l) (length l) ≡ t → ◌≡◌ {A = Option ℕ} (cond t (Some (position_or_len (λ b. eqb b 10) l)) None) None
          → length l ≤ position_or_len (λ b. eqb b 10) l
      go true t f = absurd (let o : ⊥ = cc in o)
      go false t f = omega (arith, ltb-false _ _ t)

-- it ends the first line
pub size-found : (l : List ℕ) (i : ℕ) → position (λ b. eqb b 10) l ≡ Some i → (line_size l ≡ i + 1) × (i < length l)
size-found l i e = let f = feed-found l i e in (omega (arith, size-by l, f.0, f.1), f.1)

pub size-none : (l : List ℕ) → position (λ b. eqb b 10) l ≡ None → line_size l ≡ length l
size-none l e = omega (arith, size-by l, feed-none l e)

pub indent-spaces : (l : List ℕ) → length (take_while (λ b. eqb b 32) l) ≡ indent l
unfolding indent
indent-spaces l = length-prefix_len (λ b. eqb b 32) l ∙ go l
  where
    step : (t : Bool) (n m : ℕ) → n ≡ m → cond t (1 + n) 0 ≡ elim t [ true ↦ suc m | false ↦ 0 ]
    step true n m e = omega arith
    step false n m e = refl

    go : (l : List ℕ) → prefix_len (λ b. eqb b 32) l ≡ indent l
    go [] = refl
    go (b ∷ bs) = step (eqb b 32) _ _ (go bs)

-- ---- the first line

module _ (b : ℕ) (bs : List ℕ) where
  pub cut-feed : eqb b feed ≡ true → cut (b ∷ bs) ≡ (b ∷ []) ∷ cut bs
  unfolding cut
  cut-feed e = rw (e, cut)

  pub cut-other : eqb b feed ≡ false → cut (b ∷ bs) ≡ onto b (cut bs)
  unfolding cut
  cut-other e = rw (e, cut)

  feed-size : eqb b feed ≡ true → line_size (b ∷ bs) ≡ 1
  unfolding line_size
  feed-size e = rw (e, line_size)

  other-size : eqb b feed ≡ false → line_size (b ∷ bs) ≡ suc (line_size bs)
  unfolding line_size
  other-size e = rw (e, line_size)

pub onto-line : (b : ℕ) (l : List ℕ) (ls : List (List ℕ)) → onto b (l ∷ ls) ≡ (b ∷ l) ∷ ls
unfolding onto
onto-line b l ls = refl

alone : (b : ℕ) → eqb b feed ≡ false → cut (b ∷ []) ≡ (b ∷ []) ∷ cut []
unfolding cut onto
alone b e = rw (e, cut)

no_size : line_size [] ≡ 0
unfolding line_size
no_size = refl

-- the first line and the others, where it has n bytes
abbrev pub first_line : List ℕ → ℕ → List (List ℕ)
first_line l n = take n l ∷ cut (drop n l)

cut-byte : (b : ℕ) (bs : List ℕ) (t : Bool) → eqb b feed ≡ t → (0 < length bs → cut bs ≡ first_line bs (line_size bs))
    → cut (b ∷ bs) ≡ first_line (b ∷ bs) (line_size (b ∷ bs))
cut-byte b bs true e rest = cut-feed b bs e ∙ sym (ap (first_line (b ∷ bs)) (feed-size b bs e))
cut-byte b [] false e rest = alone b e ∙ sym (ap (first_line (b ∷ [])) (other-size b [] e ∙ ap suc no_size))
cut-byte b (c ∷ cs) false e rest =
    cut-other b (c ∷ cs) e
    ∙ ap (onto b) (rest (omega arith))
    ∙ onto-line b _ _
    ∙ sym (ap (first_line (b ∷ c ∷ cs)) (other-size b (c ∷ cs) e))

pub cut_line : (l : List ℕ) → 0 < length l → cut l ≡ first_line l (line_size l)
cut_line [] h = absurd (omega arith)
cut_line (b ∷ bs) h = cut-byte b bs (eqb b feed) refl (cut_line bs)

pub cut-none : cut [] ≡ []
unfolding cut
cut-none = refl

-- ---- the line at the byte `at`, which is line n

map-drop : (f : List ℕ → ℕ) (ls : List (List ℕ)) (n : ℕ) → drop n (map f ls) ≡ map f (drop n ls)
map-drop f ls zero = refl
map-drop f [] (suc n) = refl
map-drop f (l ∷ ls) (suc n) = map-drop f ls n

head-drop : (xs ys : List ℕ) (n x : ℕ) → drop n xs ≡ x ∷ ys → get_or xs n 0 ≡ x
head-drop xs ys n x e = ap (λ (m : ℕ). get_or xs m 0) (sym (add-zero n)) ∙ sym (get_or-drop n xs 0 0) ∙ ap (λ (l : List ℕ). get_or l 0 0) e

misspelled-zero : (n : ℕ) (ws : List ℕ) → misspelled n (0 ∷ ws) ≡ n
unfolding misspelled
misspelled-zero n ws = refl

pub misspelled-next : (n w : ℕ) (ws : List ℕ) → (w ≡ 0 → ⊥) → misspelled n (w ∷ ws) ≡ misspelled (suc n) ws
unfolding misspelled
misspelled-next n zero ws h = absurd (h refl)
misspelled-next n (suc w) ws h = refl

module _ (text : List ℕ) (n at e : ℕ) (words spaces : List ℕ) (taken : Taken text n at words spaces) (more : at < length text)
    (ends : e ≡ at + line_size (drop at text)) where
  abbrev pub line_at : List ℕ
  line_at = take (e - at) (drop at text)

  here : drop n (cut text) ≡ line_at ∷ cut (drop e text)
  here =
      let size : e - at ≡ line_size (drop at text) = omega arith in
      sym taken.rest
      ∙ cut_line (drop at text) (omega (arith, length-drop at text))
      ∙ ap (λ (k : ℕ). take k (drop at text) ∷ cut (drop (line_size (drop at text)) (drop at text))) (sym size)
      ∙ ap (λ (l : List ℕ). line_at ∷ cut l) (drop-drop (line_size (drop at text)) at text ∙ ap (λ (k : ℕ). drop k text) (sym ends))

  pub line-counts : n < length (cut text)
  line-counts = omega (arith, ap length here, length-drop n (cut text))

  next : drop (n + 1) (cut text) ≡ cut (drop e text)
  next = sym (drop-drop 1 n (cut text)) ∙ ap (drop 1) here

  words-here : drop n (words_of text) ≡ word_in line_at ∷ drop (n + 1) (words_of text)
  unfolding words_of
  words-here = map-drop word_in (cut text) n ∙ ap (map word_in) (here ∙ ap (λ (ls : List (List ℕ)). line_at ∷ ls) (sym next)) ∙ ap (λ (l : List ℕ). word_in line_at ∷ l) (sym (map-drop word_in (cut text) (n + 1)))

  spaces-here : drop n (indents text) ≡ indent line_at ∷ drop (n + 1) (indents text)
  unfolding indents
  spaces-here = map-drop indent (cut text) n ∙ ap (map indent) (here ∙ ap (λ (ls : List (List ℕ)). line_at ∷ ls) (sym next)) ∙ ap (λ (l : List ℕ). indent line_at ∷ l) (sym (map-drop indent (cut text) (n + 1)))

  pub line-bad : word_in line_at ≡ 0 → misspelled 1 (words_of text) ≡ n + 1
  line-bad z =
      taken.fine ∙ ap (misspelled (n + 1)) (words-here ∙ ap (λ (w : ℕ). w ∷ drop (n + 1) (words_of text)) z) ∙ misspelled-zero (n + 1) (drop (n + 1) (words_of text))

  pub line_taken : (w s : ℕ) → w ≡ word_in line_at → s ≡ indent line_at → (w ≡ 0 → ⊥) → e ≤ length text → n < length words → n < length spaces
      → Taken text (n + 1) e (set words n w) (set spaces n s)
  unfolding words_of indents
  line_taken w s ew es some h kw ks =
      record {
        inside = h;
        rest = sym next;
        fine =
            taken.fine
            ∙ ap (misspelled (n + 1)) words-here
            ∙ misspelled-next (n + 1) (word_in line_at) _ (λ z. some (ew ∙ z))
            ∙ ap (λ (k : ℕ). misspelled k (drop (n + 1) (words_of text))) (sym (add-one (n + 1)));
        count = omega (arith, line-counts);
        read =
            taken_more words (words_of text) n w kw (omega (arith, line-counts, length-map (cut text) word_in)) (ew ∙ sym (head-drop (words_of text) _ n _ words-here))
            taken.read;
        indented =
            taken_more spaces (indents text) n s ks (omega (arith, line-counts, length-map (cut text) indent)) (es ∙ sym (head-drop (indents text) _ n _ spaces-here))
            taken.indented;
      }

pub taken_start : (text words spaces : List ℕ) → Taken text 0 0 words spaces
taken_start text words spaces = record { inside = omega arith; rest = refl; fine = refl; count = omega arith; read = refl; indented = refl }

-- what is left of a line behind its first n bytes
pub behind : (l : List ℕ) (n : ℕ) → take (length l - n) (drop n l) ≡ drop n l
behind l n = take_all (length l - n) (drop n l) (omega (arith, length-drop n l))

-- ---- the lines that are left

-- from the byte `at` on, where so many lines are before it
module _ (text : List ℕ) (n at e : ℕ) (more : at < length text) (ends : e ≡ at + line_size (drop at text)) where
  pub rest_lines : cut (drop at text) ≡ take (e - at) (drop at text) ∷ cut (drop e text)
  rest_lines =
      let size : e - at ≡ line_size (drop at text) = omega arith in
      cut_line (drop at text) (omega (arith, length-drop at text))
      ∙ ap (λ (k : ℕ). take k (drop at text) ∷ cut (drop (line_size (drop at text)) (drop at text))) (sym size)
      ∙ ap (λ (l : List ℕ). take (e - at) (drop at text) ∷ cut l) (drop-drop (line_size (drop at text)) at text ∙ ap (λ (k : ℕ). drop k text) (sym ends))

  pub rest-bad : word_in (take (e - at) (drop at text)) ≡ 0 → misspelled n (map word_in (cut (drop at text))) ≡ n
  rest-bad z =
      ap (λ (ls : List (List ℕ)). misspelled n (map word_in ls)) rest_lines
      ∙ ap (λ (w : ℕ). misspelled n (w ∷ map word_in (cut (drop e text)))) z
      ∙ misspelled-zero n (map word_in (cut (drop e text)))

  pub rest-good : (word_in (take (e - at) (drop at text)) ≡ 0 → ⊥)
      → misspelled n (map word_in (cut (drop at text))) ≡ misspelled (n + 1) (map word_in (cut (drop e text)))
  rest-good some =
      ap (λ (ls : List (List ℕ)). misspelled n (map word_in ls)) rest_lines
      ∙ misspelled-next n _ (map word_in (cut (drop e text))) some
      ∙ ap (λ (k : ℕ). misspelled k (map word_in (cut (drop e text)))) (sym (add-one n))

pub rest-none : (text : List ℕ) (n at : ℕ) → length text ≤ at → misspelled n (map word_in (cut (drop at text))) ≡ 0
unfolding misspelled cut
rest-none text n at h = ap (λ (l : List ℕ). misspelled n (map word_in (cut l))) (drop_of_length-le text h)

-- a line has a byte
size-some : (l : List ℕ) → 0 < length l → 0 < line_size l
size-some [] h = absurd (omega arith)
size-some (b ∷ bs) h = go (eqb b feed) refl
  where
    go : (t : Bool) → eqb b feed ≡ t → 0 < line_size (b ∷ bs)
    go true e = omega (arith, feed-size b bs e)
    go false e = omega (arith, other-size b bs e)

pub end_after : (text : List ℕ) (at e : ℕ) → at < length text → e ≡ at + line_size (drop at text) → at < e
end_after text at e h ends = omega (arith, size-some (drop at text) (omega (arith, length-drop at text)))

-- ---- what is known behind the first n lines

module _ (text : List ℕ) (n at : ℕ) (words spaces : List ℕ) (taken : Taken text n at words spaces) where
  left_over : misspelled 1 (words_of text) ≡ misspelled (n + 1) (map word_in (cut (drop at text)))
  unfolding words_of
  left_over = taken.fine ∙ ap (misspelled (n + 1)) (map-drop word_in (cut text) n ∙ ap (map word_in) (sym taken.rest))

  pub left-bad : (m : ℕ) → m ≡ misspelled (n + 1) (map word_in (cut (drop at text))) → misspelled 1 (words_of text) ≡ m
  left-bad m e = left_over ∙ sym e

  -- all lines
  module _ (done : length text ≤ at) where
    none : drop n (cut text) ≡ []
    none = sym taken.rest ∙ ap cut (drop_of_length-le text done) ∙ cut-none

    all : length (cut text) ≤ n
    all = omega (arith, ap length none, length-drop n (cut text))

    pub all-fine : misspelled 1 (words_of text) ≡ 0
    all-fine = left_over ∙ rest-none text (n + 1) at done

    pub all_words : take n words ≡ words_of text
    unfolding words_of
    all_words = taken.read ∙ take_all n (words_of text) (omega (arith, all, length-map (cut text) word_in))

    pub all-spaces : take n spaces ≡ indents text
    unfolding indents
    all-spaces = taken.indented ∙ take_all n (indents text) (omega (arith, all, length-map (cut text) indent))

  -- more lines than n
  module _ (more : at < length text) where
    pub more-words : n < length (words_of text)
    unfolding words_of
    more-words =
        omega (arith, line-counts text n at (at + line_size (drop at text)) words spaces taken more refl, length-map (cut text) word_in)

    pub first_word : 0 < n → get_or (words_of text) 0 0 ≡ get_or words 0 0
    first_word h = sym (get_or-take n (words_of text) 0 0 h) ∙ ap (λ (l : List ℕ). get_or l 0 0) (sym taken.read) ∙ get_or-take n words 0 0 h
