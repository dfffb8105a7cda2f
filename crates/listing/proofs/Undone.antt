-- Guessing undoes spelling: the word of a spelled word is that word.
use Prim.Native.Nat.{ℕ, zero, suc, ◌+◌, ◌-◌, ◌*◌, ◌%◌, ◌^◌, ◌<◌, ◌≤◌}
use mathlib.Core.Path.{◌≡◌, refl, sym, ap, ap₂, ◌∙◌, subst}
use mathlib.Core.Bool.{Bool, true, false, ◌&&◌}
use mathlib.Core.List.{List, [], ◌∷◌, ◌++◌, map, append_assoc}
use native.Mathlib.Nat.{mod-eq_of_lt, add-mod, mod-mod, mul-zero, mul-suc, add-zero, zero-add, add-suc, suc-add}
use native.Mathlib.Omega.{arith}
use lib.Dec.{eqb, leb, ltb, T, lit<, lit≤, eqb→eq, leb→le}
use lib.ListN.{length, get_or, drop, replicate}
use lib.Seq.{drop-append_seam}
use borrow.Author.Tests.{eq-eqb, ne_eqb, ltb-true, ltb-false}
use Rattle.table.specs.Words.{kind, argument}
use Rattle.table.proofs.TermWords.{word_of-parts}
use Rattle.table.proofs.Constants.{at}
use Rattle.text.specs.Text.{digits, value, glyph, numeral, decimal, set}
use Rattle.text.proofs.Digits.{Below, digits-below, digits_value}
use Rattle.listing.specs.declared.keywords.Style.{Style}
use Rattle.listing.specs.declared.keywords.Style.TheVariants.{Omitted, Hex, Whole, Signed}
use Rattle.listing.specs.Keywords.{Entry, unused, entries, entry_of, used}
use Rattle.listing.specs.Spelling.{space, feed, minus, spelled_argument, line_of, spelled, prefix, kind_from, guessed_kind, digit_of, folded, guessed_argument, guessed, same, line_word}
use Rattle.listing.proofs.Styles.{signed_low, signed_high}
use Rattle.listing.proofs.Guessing.{argument-minus, argument-plus, guessed-as, spells-yes}

-- ---- digits

-- the byte of a digit stands for it, and is not less than `0`
glyph_test : ℕ → ℕ → Bool
glyph_test d x = eqb (digit_of (glyph d)) d && leb 48 (glyph d)

and_left : (a b : Bool) → T (a && b) → T a
and_left true b t = tt
and_left false b t = t

and_right : (a b : Bool) → T (a && b) → T b
and_right true b t = t
and_right false b t = absurd t

glyph-tested : (d : ℕ) → d < 16 → T (glyph_test d (get_or (replicate 16 0) d 0))
unfolding glyph_test glyph
glyph-tested d h = at glyph_test (replicate 16 0) tt d h

pub glyph-digit : (d : ℕ) → d < 16 → digit_of (glyph d) ≡ d
unfolding glyph_test
glyph-digit d h = eqb→eq _ d (and_left (eqb (digit_of (glyph d)) d) (leb 48 (glyph d)) (glyph-tested d h))

pub glyph-high : (d : ℕ) → d < 16 → 48 ≤ glyph d
unfolding glyph_test
glyph-high d h = leb→le 48 (glyph d) (and_right (eqb (digit_of (glyph d)) d) _ (glyph-tested d h))

times_mod : (m u b : ℕ) → (u % m) * b % m ≡ u * b % m
times_mod m u zero = ap (λ (x : ℕ). x % m) (mul-zero (u % m) ∙ sym (mul-zero u))
times_mod m u (suc b) =
    ap (λ (x : ℕ). x % m) (mul-suc (u % m) b)
    ∙ add-mod ((u % m) * b) (u % m) m
    ∙ ap₂ (λ (x y : ℕ). (x + y) % m) (times_mod m u b) (mod-mod u m)
    ∙ sym (add-mod (u * b) u m)
    ∙ ap (λ (x : ℕ). x % m) (sym (mul-suc u b))

module _ (base : ℕ) (small : base ≤ 16) where
  fold_step : (v b : ℕ) (bs : List ℕ) → (b ≡ feed → ⊥) → folded base v (b ∷ bs) ≡ folded base ((v * base + digit_of b) % 2 ^ 24) bs
  unfolding folded
  fold_step v b bs n = rw (ne_eqb b feed n, folded)

  fold-stop : (v : ℕ) (bs : List ℕ) → folded base v (feed ∷ bs) ≡ v
  unfolding folded
  fold-stop v bs = refl

  -- the value modulo 2^24, digit by digit
  value-mod : (v d : ℕ) → ((v % 2 ^ 24) * base + d) % 2 ^ 24 ≡ (v * base + d) % 2 ^ 24
  value-mod v d =
      add-mod ((v % 2 ^ 24) * base) d (2 ^ 24)
      ∙ ap (λ (x : ℕ). (x + d % 2 ^ 24) % 2 ^ 24) (times_mod (2 ^ 24) v base)
      ∙ sym (add-mod (v * base) d (2 ^ 24))

  folded-value : (v : ℕ) (ds bs : List ℕ) → Below base ds → folded base (v % 2 ^ 24) (map glyph ds ++ feed ∷ bs) ≡ value base v ds % 2 ^ 24
  unfolding value
  folded-value v [] bs t = fold-stop (v % 2 ^ 24) bs
  folded-value v (d ∷ ds) bs t =
      let low : d < 16 = omega (arith, t.0) in
      fold_step (v % 2 ^ 24) (glyph d) (map glyph ds ++ feed ∷ bs) (λ e. omega (arith, glyph-high d low))
      ∙ ap (λ (x : ℕ). folded base (((v % 2 ^ 24) * base + x) % 2 ^ 24) (map glyph ds ++ feed ∷ bs)) (glyph-digit d low)
      ∙ ap (λ (x : ℕ). folded base x (map glyph ds ++ feed ∷ bs)) (value-mod v d)
      ∙ folded-value (v * base + d) ds bs t.1

  numeral-folded : (optional places n : ℕ) (bs : List ℕ) → 0 < base → n < base ^ places → n < 2 ^ 24 → folded base 0 (numeral base optional places n ++ feed ∷ bs) ≡ n
  unfolding numeral
  numeral-folded optional places n bs pos h k =
      folded-value 0 (digits base optional places n) bs (digits-below base optional places n pos)
      ∙ ap (λ (x : ℕ). x % 2 ^ 24) (digits_value base optional places n pos h)
      ∙ mod-eq_of_lt k

-- ---- arguments

below-decimal : {a : ℕ} → a < 2 ^ 24 → a < 10 ^ 20
below-decimal h = omega arith

set-folded : (a : ℕ) → a < 2 ^ 24 → folded 16 0 (set a ++ feed ∷ []) ≡ a
unfolding set
set-folded a h = numeral-folded 16 (lit≤ tt) 0 6 a [] (lit< tt) h h

decimal-folded : (a : ℕ) → a < 2 ^ 24 → folded 10 0 (decimal a ++ feed ∷ []) ≡ a
unfolding decimal
decimal-folded a h = numeral-folded 10 (lit≤ tt) 19 20 a [] (lit< tt) (below-decimal h) h

-- every byte is a digit's
abbrev pub High : List ℕ → Type 0
High [] = Unit {0}
High (b ∷ bs) = (48 ≤ b) × High bs

glyphs-high : (base : ℕ) (ds : List ℕ) → base ≤ 16 → Below base ds → High (map glyph ds)
glyphs-high base [] h t = tt
glyphs-high base (d ∷ ds) h t = (glyph-high d (omega (arith, t.0)), glyphs-high base ds h t.1)

pub decimal-high : (a : ℕ) → High (decimal a)
unfolding decimal numeral
decimal-high a = glyphs-high 10 (digits 10 19 20 a) (lit≤ tt) (digits-below 10 19 20 a (lit< tt))

pub set-high : (a : ℕ) → High (set a)
unfolding set numeral
set-high a = glyphs-high 16 (digits 16 0 6 a) (lit≤ tt) (digits-below 16 0 6 a (lit< tt))

no_sign : (l bs : List ℕ) → High l → get_or (l ++ feed ∷ bs) 0 0 ≡ minus → ⊥
no_sign [] bs h e = omega arith
no_sign (b ∷ l) bs h e = omega (arith, h.0)

-- the arguments that a style writes: what is left out is 0
abbrev pub Kept : Style → ℕ → Type 0
Kept Omitted a = a ≡ 0
Kept Hex a = a < 2 ^ 24
Kept Whole a = a < 2 ^ 24
Kept Signed a = a < 2 ^ 24

signed-undone : (a : ℕ) (b : Bool) → ltb a (2 ^ 23) ≡ b → a < 2 ^ 24 → guessed_argument Signed (spelled_argument Signed a ++ feed ∷ []) ≡ a
signed-undone a true t h =
    ap (λ (l : List ℕ). guessed_argument Signed (l ++ feed ∷ [])) (sym (signed_low a (ltb-true a (2 ^ 23) t)))
    ∙ sym (argument-plus (space ∷ decimal a ++ feed ∷ []) 0 (no_sign (decimal a) [] (decimal-high a)))
    ∙ decimal-folded a h
signed-undone a false t h =
    let back : 2 ^ 24 - (2 ^ 24 - a) ≡ a = omega arith in
    ap (λ (l : List ℕ). guessed_argument Signed (l ++ feed ∷ [])) (sym (signed_high a (ltb-false a (2 ^ 23) t)))
    ∙ sym (argument-minus (space ∷ minus ∷ decimal (2 ^ 24 - a) ++ feed ∷ []) 0 refl)
    ∙ ap (λ (n : ℕ). (2 ^ 24 - n) % 2 ^ 24) (decimal-folded (2 ^ 24 - a) (omega (arith, ltb-false a (2 ^ 23) t)))
    ∙ ap (λ (n : ℕ). n % 2 ^ 24) back
    ∙ mod-eq_of_lt h

argument-undone : (s : Style) (a : ℕ) → Kept s a → guessed_argument s (spelled_argument s a ++ feed ∷ []) ≡ a
unfolding spelled_argument guessed_argument
argument-undone Omitted a h = sym h
argument-undone Hex a h = set-folded a h
argument-undone Whole a h = decimal-folded a h
argument-undone Signed a h = signed-undone a (ltb a (2 ^ 23)) refl h

-- ---- keywords: none starts another, so each line's keyword is found

Found : List Entry → ℕ → Type 0
Found [] i = Unit {0}
Found (e ∷ es) i = ((a : ℕ) → T (used e) → guessed_kind (line_of e a) ≡ i) × Found es (suc i)

all_found : Found entries 0
unfolding Found entries used guessed_kind kind_from prefix line_of spelled_argument
all_found =
    (λ a t. absurd t, (λ a t. refl, (λ a t. refl, (λ a t. refl, (λ a t. refl, (λ a t. absurd t, (λ a t. absurd t, (λ a t. absurd t, (λ a t. absurd t, (λ a t. absurd t, (λ a t. absurd t, (λ a t. absurd t, (λ a t. absurd t, (λ a t. absurd t, (λ a t. absurd t, (λ a t. absurd t, (λ a t. refl, (λ a t. refl, (λ a t. refl, (λ a t. refl, (λ a t. refl, (λ a t. refl, (λ a t. refl, (λ a t. refl, (λ a t. refl, (λ a t. refl, (λ a t. refl, (λ a t. refl, (λ a t. refl, (λ a t. refl, (λ a t. refl, (λ a t. refl, (λ a t. refl, (λ a t. refl, (λ a t. refl, (λ a t. refl, (λ a t. refl, tt)))))))))))))))))))))))))))))))))))))

found_at : (es : List Entry) (i : ℕ) → Found es i → (k : ℕ) (a : ℕ) → k < length es → T (used (get_or es k unused)) → guessed_kind (line_of (get_or es k unused) a) ≡ i + k
unfolding Found
found_at [] i f k a h t = absurd (omega arith)
found_at (e ∷ es) i f zero a h t = f.0 a t ∙ sym (add-zero i)
found_at (e ∷ es) i f (suc k) a h t = found_at es (suc i) f.1 k a (omega arith) t ∙ suc-add i k ∙ sym (add-suc i k)

-- a word of document 01's kinds with an argument that its line keeps
pub record Known (w : ℕ) : Type 0 where
  pub small : kind w ≤ 36
  pub named : T (used (entry_of (kind w)))
  pub kept : Kept (entry_of (kind w)).style (argument w)

inside : {k : ℕ} → k ≤ 36 → k < length entries
unfolding entries
inside h = omega arith

not-zero : T (used (entry_of 0)) → ⊥
unfolding entry_of entries used
not-zero t = t

same_self : (l : List ℕ) → same l l ≡ true
unfolding same
same_self [] = refl
same_self (b ∷ bs) = ap (λ (t : Bool). t && same bs bs) (eq-eqb b b refl) ∙ same_self bs

module _ (w : ℕ) (known : Known w) where
  kind-undone : kind w ≡ guessed_kind (spelled w)
  unfolding spelled entry_of
  kind-undone = sym (found_at entries 0 all_found (kind w) (argument w) (inside known.small) known.named ∙ zero-add (kind w))

  pub kind-some : kind w ≡ 0 → ⊥
  kind-some z = not-zero (subst (λ (k : ℕ). T (used (entry_of k))) z known.named)

  behind : drop (length (entry_of (kind w)).keyword) (spelled w) ≡ spelled_argument (entry_of (kind w)).style (argument w) ++ feed ∷ []
  unfolding spelled line_of
  behind =
      ap (drop (length (entry_of (kind w)).keyword)) (append_assoc (entry_of (kind w)).keyword _ (feed ∷ []))
      ∙ drop-append_seam (entry_of (kind w)).keyword _

  guess-undone : guessed (kind w) (spelled w) ≡ w
  guess-undone =
      sym
      (guessed-as (spelled w) (kind w) (argument w) _ refl
      (sym (ap (guessed_argument (entry_of (kind w)).style) behind ∙ argument-undone (entry_of (kind w)).style (argument w) known.kept)))
      ∙ word_of-parts w

  -- the word of its line is the word
  pub word-undone : line_word (spelled w) ≡ w
  word-undone =
      sym
      (spells-yes (spelled w) (kind w) kind-undone kind-some (ap (λ (v : ℕ). same (spelled v) (spelled w)) guess-undone ∙ same_self (spelled w)))
      ∙ guess-undone
