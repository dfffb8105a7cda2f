-- The lines of a text that the writer makes, cut and read again; and those of a text that the reader accepts.
use Prim.Native.Nat.{ℕ, zero, suc, ◌+◌, ◌-◌, ◌*◌, ◌^◌, ◌<◌, ◌≤◌}
use mathlib.Core.Path.{◌≡◌, refl, sym, ap, ap₂, ◌∙◌, subst}
use mathlib.Core.Logic.{⊎_elim}
use mathlib.Core.Bool.{Bool, true, false, not, ◌&&◌, false≢true}
use mathlib.Core.List.{List, [], ◌∷◌, ◌++◌, map, append_assoc}
use native.Mathlib.Omega.{arith}
use lib.Dec.{eqb, leb, ltb, T, leb→le}
use lib.ListN.{length, get_or, drop, replicate, length-map, length-replicate}
use lib.Seq.{drop_at}
use borrow.Author.Tests.{eq-eqb, ne_eqb, eqb-true, ltb-true, ltb-false}
use Rattle.table.specs.Words.{kind, argument, limit, limits_by_kind, first_kind}
use Rattle.table.specs.Scan.{Task, head, name, perms, guard, term, accepted, names_at, narrow_reading}
use Rattle.table.specs.Code.{task_at}
use Rattle.table.proofs.Faults.{Stands}
use Rattle.table.proofs.Stack.{reach}
use Rattle.table.proofs.Parts.{place-stands}
use Rattle.table.proofs.Widths.{narrow-accepted, no-wide-word}
use Rattle.table.proofs.TermWords.{argument-lt}
use Rattle.table.proofs.Constants.{at}
use Rattle.text.specs.Text.{decimal, set}
use Rattle.listing.specs.declared.keywords.Style.{Style}
use Rattle.listing.specs.declared.keywords.Style.TheVariants.{Omitted, Hex, Whole, Signed}
use Rattle.listing.specs.Keywords.{Entry, unused, entries, entry_of, used}
use Rattle.listing.specs.Spelling.{space, feed, signed_decimal, spelled_argument, line_of, spelled, line_word}
use Rattle.listing.specs.Listing.{indented, lines, onto, cut, indent, word_in, words_of, indents, misspelled, misplaced}
use Rattle.listing.proofs.Styles.{signed_low, signed_high}
use Rattle.listing.proofs.Undone.{High, decimal-high, set-high, Kept, Known, kind-some, word-undone}
use Rattle.listing.proofs.Cutting.{cut-feed, cut-other, onto-line, cut-none, misspelled-next}
use Rattle.listing.proofs.Guessing.{spells-sound}

-- ---- a line has one line feed, at its end

abbrev Plain : List ℕ → Type 0
Plain [] = Unit {0}
Plain (b ∷ bs) = (b ≡ feed → ⊥) × Plain bs

plain-append : (xs ys : List ℕ) → Plain xs → Plain ys → Plain (xs ++ ys)
plain-append [] ys p q = q
plain-append (b ∷ xs) ys p q = (p.0, plain-append xs ys p.1 q)

plain-high : (l : List ℕ) → High l → Plain l
plain-high [] h = tt
plain-high (b ∷ bs) h = (λ e. omega (arith, h.0), plain-high bs h.1)

plain-spaces : (n : ℕ) → Plain (replicate n space)
plain-spaces zero = tt
plain-spaces (suc n) = (λ e. omega arith, plain-spaces n)

cut-plain : (l rest : List ℕ) → Plain l → cut (l ++ feed ∷ rest) ≡ (l ++ feed ∷ []) ∷ cut rest
cut-plain [] rest p = cut-feed feed rest refl
cut-plain (b ∷ l) rest p = cut-other b (l ++ feed ∷ rest) (ne_eqb b feed p.0) ∙ ap (onto b) (cut-plain l rest p.1) ∙ onto-line b (l ++ feed ∷ []) (cut rest)

-- ---- keywords are letters

lettered : List ℕ → Bool
lettered [] = true
lettered (b ∷ bs) = leb 97 b && lettered bs

all_lettered : List Entry → Bool
all_lettered [] = true
all_lettered (e ∷ es) = lettered e.keyword && all_lettered es

and_left : (a b : Bool) → a && b ≡ true → a ≡ true
and_left true b t = refl
and_left false b t = t

and_right : (a b : Bool) → a && b ≡ true → b ≡ true
and_right true b t = t
and_right false b t = absurd (false≢true t)

entries-lettered : all_lettered entries ≡ true
unfolding all_lettered lettered entries
entries-lettered = refl

lettered-at : (es : List Entry) → all_lettered es ≡ true → (k : ℕ) → lettered (get_or es k unused).keyword ≡ true
unfolding all_lettered lettered
lettered-at [] t k = refl
lettered-at (e ∷ es) t zero = and_left (lettered e.keyword) (all_lettered es) t
lettered-at (e ∷ es) t (suc k) = lettered-at es (and_right (lettered e.keyword) (all_lettered es) t) k

keyword-lettered : (k : ℕ) → lettered (entry_of k).keyword ≡ true
unfolding entry_of
keyword-lettered k = lettered-at entries entries-lettered k

letter-not-feed : (b : ℕ) → leb 97 b ≡ true → 97 ≤ b
letter-not-feed b t = leb→le 97 b (subst T (sym t) tt)

plain-letters : (l : List ℕ) → lettered l ≡ true → Plain l
unfolding lettered
plain-letters [] t = tt
plain-letters (b ∷ bs) t =
    let h = letter-not-feed b (and_left (leb 97 b) (lettered bs) t) in
    (λ e. omega (arith, h), plain-letters bs (and_right (leb 97 b) (lettered bs) t))

plain-argument : (s : Style) (a : ℕ) → Plain (spelled_argument s a)
unfolding spelled_argument
plain-argument Omitted a = tt
plain-argument Hex a = (λ e. omega arith, plain-high (set a) (set-high a))
plain-argument Whole a = (λ e. omega arith, plain-high (decimal a) (decimal-high a))
plain-argument Signed a = go (ltb a (2 ^ 23)) refl
  where
    go : (b : Bool) → ltb a (2 ^ 23) ≡ b → Plain (space ∷ signed_decimal a)
    go true t = subst Plain (signed_low a (ltb-true a (2 ^ 23) t)) (λ e. omega arith, plain-high (decimal a) (decimal-high a))
    go false t = subst Plain (signed_high a (ltb-false a (2 ^ 23) t)) (λ e. omega arith, (λ e. omega arith, plain-high (decimal (2 ^ 24 - a)) (decimal-high (2 ^ 24 - a))))

-- a line without its line feed
body : ℕ → ℕ → List ℕ
body d w = replicate (2 * d) space ++ ((entry_of (kind w)).keyword ++ spelled_argument (entry_of (kind w)).style (argument w))

body-plain : (d w : ℕ) → Plain (body d w)
unfolding body
body-plain d w =
    plain-append (replicate (2 * d) space) _ (plain-spaces (2 * d))
    (plain-append (entry_of (kind w)).keyword _ (plain-letters (entry_of (kind w)).keyword (keyword-lettered (kind w))) (plain-argument (entry_of (kind w)).style (argument w)))

indented-body : (d w : ℕ) → indented d w ≡ body d w ++ feed ∷ []
unfolding body spelled line_of
indented-body d w = sym (append_assoc (replicate (2 * d) space) _ (feed ∷ []))

cut-indented : (d w : ℕ) (rest : List ℕ) → cut (indented d w ++ rest) ≡ indented d w ∷ cut rest
cut-indented d w rest =
    ap cut (ap (λ (l : List ℕ). l ++ rest) (indented-body d w) ∙ append_assoc (body d w) (feed ∷ []) rest)
    ∙ cut-plain (body d w) rest (body-plain d w)
    ∙ ap (λ (l : List ℕ). l ∷ cut rest) (sym (indented-body d w))

-- ---- a line's leading spaces and its word

indent-none : (b : ℕ) (bs : List ℕ) → (b ≡ space → ⊥) → indent (b ∷ bs) ≡ 0
unfolding indent
indent-none b bs n = rw (ne_eqb b space n, indent)

indent-some : (bs : List ℕ) → indent (space ∷ bs) ≡ suc (indent bs)
unfolding indent
indent-some bs = refl

keyword-first : (l rest : List ℕ) → lettered l ≡ true → (length l ≡ 0 → ⊥) → indent (l ++ rest) ≡ 0
unfolding lettered
keyword-first [] rest t n = absurd (n refl)
keyword-first (b ∷ l) rest t n =
    let h = letter-not-feed b (and_left (leb 97 b) (lettered l) t) in
    indent-none b (l ++ rest) (λ e. omega (arith, h))

indent-spaces : (n : ℕ) (l : List ℕ) → indent l ≡ 0 → indent (replicate n space ++ l) ≡ n
indent-spaces zero l e = e
indent-spaces (suc n) l e = indent-some (replicate n space ++ l) ∙ ap suc (indent-spaces n l e)

used-some : (e : Entry) → T (used e) → length e.keyword ≡ 0 → ⊥
unfolding used
used-some e t z = subst (λ (b : Bool). T (not b)) (eq-eqb (length e.keyword) 0 z) t

module _ (d w : ℕ) (known : Known w) where
  indent-undone : indent (indented d w) ≡ 2 * d
  unfolding spelled line_of
  indent-undone =
      indent-spaces (2 * d) (spelled w)
      (ap indent (append_assoc (entry_of (kind w)).keyword _ (feed ∷ []))
      ∙ keyword-first (entry_of (kind w)).keyword _ (keyword-lettered (kind w)) (used-some (entry_of (kind w)) known.named))

  line-undone : word_in (indented d w) ≡ w
  unfolding word_in
  line-undone =
      ap (λ (n : ℕ). line_word (drop n (indented d w))) indent-undone
      ∙ ap line_word (drop_at (replicate (2 * d) space) (spelled w) (2 * d) (length-replicate (2 * d) space))
      ∙ word-undone w known

-- ---- all lines

no_words : (n : ℕ) → misspelled n [] ≡ 0
unfolding misspelled
no_words n = refl

known_some : (w : ℕ) → Known w → w ≡ 0 → ⊥
known_some w k z = kind-some w k (ap kind z)

abbrev pub AllKnown : List ℕ → Type 0
AllKnown [] = Unit {0}
AllKnown (w ∷ ws) = Known w × AllKnown ws

abbrev pub doubled : List ℕ → List ℕ
doubled ds = map (λ d. 2 * d) ds

pub words-undone : (ds ws : List ℕ) → length ds ≡ length ws → AllKnown ws → map word_in (cut (lines ds ws)) ≡ ws
unfolding lines
words-undone [] [] e k = ap (map word_in) cut-none
words-undone [] (w ∷ ws) e k = absurd (omega arith)
words-undone (d ∷ ds) [] e k = absurd (omega arith)
words-undone (d ∷ ds) (w ∷ ws) e k =
    ap (map word_in) (cut-indented d w (lines ds ws))
    ∙ ap₂ (λ (v : ℕ) (vs : List ℕ). v ∷ vs) (line-undone d w k.0) (words-undone ds ws (omega arith) k.1)

pub spaces-undone : (ds ws : List ℕ) → length ds ≡ length ws → AllKnown ws → map indent (cut (lines ds ws)) ≡ doubled ds
unfolding lines
spaces-undone [] [] e k = ap (map indent) cut-none
spaces-undone [] (w ∷ ws) e k = absurd (omega arith)
spaces-undone (d ∷ ds) [] e k = absurd (omega arith)
spaces-undone (d ∷ ds) (w ∷ ws) e k =
    ap (map indent) (cut-indented d w (lines ds ws))
    ∙ ap₂ (λ (v : ℕ) (vs : List ℕ). v ∷ vs) (indent-undone d w k.0) (spaces-undone ds ws (omega arith) k.1)

pub none-misspelled : (n : ℕ) (ws : List ℕ) → AllKnown ws → misspelled n ws ≡ 0
none-misspelled n [] k = no_words n
none-misspelled n (w ∷ ws) k = misspelled-next n w ws (λ z. known_some w k.0 z) ∙ none-misspelled (suc n) ws k.1

pub none-misplaced : (n : ℕ) (ds : List ℕ) → misplaced n ds (doubled ds) ≡ 0
unfolding misplaced
none-misplaced n [] = refl
none-misplaced n (d ∷ ds) = rw (eq-eqb (2 * d) (2 * d) refl, misplaced) (none-misplaced (suc n) ds)

-- ---- the words of an accepted table

known_of : (w k : ℕ) → kind w ≡ k → k ≤ 36 → T (used (entry_of k)) → Kept (entry_of k).style (argument w) → Known w
known_of w k e h u a =
    record {
      small = omega arith;
      named = subst (λ (n : ℕ). T (used (entry_of n))) (sym e) u;
      kept = subst (λ (n : ℕ). Kept (entry_of n).style (argument w)) (sym e) a;
    }

is_omitted : Style → Bool
is_omitted Omitted = true
is_omitted Hex = false
is_omitted Whole = false
is_omitted Signed = false

keeps : (s : Style) (a : ℕ) → a < 2 ^ 24 → (T (is_omitted s) → a ≡ 0) → Kept s a
unfolding is_omitted
keeps Omitted a h z = z tt
keeps Hex a h z = h
keeps Whole a h z = h
keeps Signed a h z = h

-- every kind of a term has a keyword, and an argument that is left out has the limit 1
implies : Bool → Bool → Bool
implies true b = b
implies false b = true

term_test : ℕ → ℕ → Bool
term_test j x = used (entry_of (first_kind + j)) && implies (is_omitted (entry_of (first_kind + j)).style) (leb x 1)

T-left : (a b : Bool) → T (a && b) → T a
T-left true b t = tt
T-left false b t = t

T-right : (a b : Bool) → T (a && b) → T b
T-right true b t = t
T-right false b t = absurd t

implied : (a b : Bool) → T (implies a b) → T a → T b
unfolding implies
implied true b t h = t
implied false b t h = absurd h

term-tested : (j : ℕ) → j < 21 → T (term_test j (get_or limits_by_kind j 0))
unfolding term_test implies is_omitted used entry_of entries limits_by_kind
term-tested j h = at term_test limits_by_kind tt j h

known-term : (w : ℕ) → 16 ≤ kind w → kind w ≤ 36 → argument w < limit w → Known w
unfolding term_test limit
known-term w low high small =
    let j = kind w - first_kind in
    let same : first_kind + j ≡ kind w = omega arith in
    let t = term-tested j (omega arith) in
    let e = entry_of (first_kind + j) in
    known_of w (first_kind + j) (sym same) (omega arith) (T-left (used e) _ t)
    (keeps e.style (argument w) (argument-lt w)
    (λ o. let one : get_or limits_by_kind j 0 ≤ 1 = leb→le _ 1 (implied (is_omitted e.style) _ (T-right (used e) _ t) o) in
    let less : argument w < get_or limits_by_kind j 0 = small in
    omega arith))

known-task : (names : ℕ) (keys : List ℕ) (w : ℕ) (t : Task) → Stands names keys w t → (kind w ≡ 5 → ⊥) → Known w
unfolding entry_of entries used
known-task names keys w (head n) f five = known_of w 1 (⊎_elim (λ h. h) (λ h. absurd (five h)) f.0) (omega arith) tt (argument-lt w)
known-task names keys w name f five = known_of w 2 f.0 (omega arith) tt (argument-lt w)
known-task names keys w (perms n) f five = known_of w 3 f.0 (omega arith) tt (argument-lt w)
known-task names keys w guard f five = known_of w 4 f (omega arith) tt (argument-lt w)
known-task names keys w (term d h s) f five = known-term w f.0 f.1 f.2

each-known : (ws : List ℕ) → ((i : ℕ) → i < length ws → Known (get_or ws i 0)) → AllKnown ws
each-known [] f = tt
each-known (w ∷ ws) f = (f 0 (omega arith), each-known ws (λ i h. f (suc i) (omega arith)))

pub all_known : (ws : List ℕ) → narrow_reading ws ≡ accepted → AllKnown ws
all_known ws e =
    let r = (narrow-accepted ws e).0 in
    each-known ws (λ i l. known-task (names_at ws) (reach ws r i l).keys (get_or ws i 0) (task_at ws i) (place-stands ws r i l) (no-wide-word ws e i l))

-- ---- the lines of a text that is accepted

join : List (List ℕ) → List ℕ
join [] = []
join (l ∷ ls) = l ++ join ls

join-onto : (b : ℕ) (ls : List (List ℕ)) → join (onto b ls) ≡ b ∷ join ls
unfolding join onto
join-onto b [] = refl
join-onto b (l ∷ ls) = refl

join-cut : (text : List ℕ) → join (cut text) ≡ text
unfolding join
join-cut [] = ap join cut-none
join-cut (b ∷ bs) = go (eqb b feed) refl (join-cut bs)
  where
    go : (t : Bool) → eqb b feed ≡ t → join (cut bs) ≡ bs → join (cut (b ∷ bs)) ≡ b ∷ bs
    go true t e = ap join (cut-feed b bs t) ∙ ap (λ (l : List ℕ). b ∷ l) e
    go false t e = ap join (cut-other b bs t) ∙ join-onto b (cut bs) ∙ ap (λ (l : List ℕ). b ∷ l) e

module _ (b : ℕ) (bs : List ℕ) where
  indent-yes : eqb b space ≡ true → indent (b ∷ bs) ≡ suc (indent bs)
  unfolding indent
  indent-yes e = rw (e, indent)

  indent-no : eqb b space ≡ false → indent (b ∷ bs) ≡ 0
  unfolding indent
  indent-no e = rw (e, indent)

-- a list in two: n spaces, and what stands behind its first n bytes
abbrev spaced : ℕ → List ℕ → List ℕ
spaced n l = replicate n space ++ drop n l

empty-indent : indent [] ≡ 0
unfolding indent
empty-indent = refl

indent-split : (l : List ℕ) → spaced (indent l) l ≡ l
indent-split [] = ap (λ (n : ℕ). spaced n []) empty-indent
indent-split (b ∷ bs) = go (eqb b space) refl (indent-split bs)
  where
    go : (t : Bool) → eqb b space ≡ t → spaced (indent bs) bs ≡ bs → spaced (indent (b ∷ bs)) (b ∷ bs) ≡ b ∷ bs
    go true t e = ap (λ (n : ℕ). spaced n (b ∷ bs)) (indent-yes b bs t) ∙ ap₂ (λ (x : ℕ) (l : List ℕ). x ∷ l) (sym (eqb-true b space t)) e
    go false t e = ap (λ (n : ℕ). spaced n (b ∷ bs)) (indent-no b bs t)

line-sound : (d : ℕ) (l : List ℕ) → (word_in l ≡ 0 → ⊥) → indent l ≡ 2 * d → indented d (word_in l) ≡ l
unfolding word_in
line-sound d l n e =
    ap₂ (λ (k : ℕ) (x : List ℕ). replicate k space ++ x) (sym e) (spells-sound (drop (indent l) l) n) ∙ indent-split l

misspelled-here : (n w : ℕ) (ws : List ℕ) → misspelled (suc n) (w ∷ ws) ≡ 0 → (w ≡ 0 → ⊥) × (misspelled (suc (suc n)) ws ≡ 0)
unfolding misspelled
misspelled-here n zero ws e = absurd (let o : ⊥ = omega arith in o)
misspelled-here n (suc w) ws e = (λ z. omega arith, e)

misplaced-here : (n d i : ℕ) (ds is : List ℕ) → misplaced (suc n) (d ∷ ds) (i ∷ is) ≡ 0 → (i ≡ 2 * d) × (misplaced (suc (suc n)) ds is ≡ 0)
unfolding misplaced
misplaced-here n d i ds is e = go (eqb i (2 * d)) refl e
  where
    go : (t : Bool) → eqb i (2 * d) ≡ t → ◌≡◌ {A = ℕ} (elim t [ true ↦ misplaced (suc (suc n)) ds is | false ↦ suc n ]) 0
        → (i ≡ 2 * d) × (misplaced (suc (suc n)) ds is ≡ 0)
    go true t f = (eqb-true i (2 * d) t, f)
    go false t f = absurd (let o : ⊥ = omega arith in o)

lines-sound : (n : ℕ) (ds : List ℕ) (ls : List (List ℕ)) → length ds ≡ length ls → misspelled (suc n) (map word_in ls) ≡ 0 → misplaced (suc n) ds (map indent ls) ≡ 0
    → lines ds (map word_in ls) ≡ join ls
unfolding lines join
lines-sound n [] [] e s p = refl
lines-sound n [] (l ∷ ls) e s p = absurd (omega arith)
lines-sound n (d ∷ ds) [] e s p = absurd (omega arith)
lines-sound n (d ∷ ds) (l ∷ ls) e s p =
    let a = misspelled-here n (word_in l) (map word_in ls) s in
    let b = misplaced-here n d (indent l) ds (map indent ls) p in
    ap₂ ◌++◌ (line-sound d l a.0 b.0) (lines-sound (suc n) ds ls (omega arith) a.1 b.1)

pub text-sound : (text ds : List ℕ) → length ds ≡ length (words_of text) → misspelled 1 (words_of text) ≡ 0 → misplaced 1 ds (indents text) ≡ 0
    → lines ds (words_of text) ≡ text
unfolding words_of indents
text-sound text ds e s p = lines-sound 0 ds (cut text) (e ∙ length-map (cut text) word_in) s p ∙ join-cut text
