-- Units compared: a word against the next unit.
-- Assumes nothing.
use Prim.Native.Nat.{ℕ, suc, ◌+◌, ◌*◌, ◌%◌, ◌^◌, ◌<◌}
use native.Mathlib.Omega.{arith}
use mathlib.Core.Path.{◌≡◌, refl, sym, ap, ap₂, ◌∙◌}
use mathlib.Core.Bool.{Bool, true, false, not, ◌&&◌, ◌||◌}
use mathlib.Core.List.{List, [], ◌∷◌}
use Rattle.std.specs.Prelude.{Option, None, Some, is_some}
use Rattle.json_text.specs.declared.units.Next.{Next}
use lib.Dec.{eqb}
use lib.ListN.{length}
use borrow.Author.Tests.{eq-eqb, ne_eqb, eqb-true, not-true, not-false}
use Rattle.json_text.specs.Units.{matches, contains, spread, uncons}

pub shorter : {u : ℕ} {us vs : List ℕ} → us ≡ u ∷ vs → length vs < length us
shorter {u} {us} {vs} e = let h : length us ≡ suc (length vs) = ap length e in omega arith

any-behind : (us : List ℕ) → matches false [] us ≡ true
unfolding matches
any-behind [] = refl
any-behind (u ∷ us) = refl

here : (word us : List ℕ) → matches false word us ≡ true → contains word us ≡ true
unfolding contains
here word [] h = h
here word (u ∷ us) h = ap (λ (b : Bool). b || contains word us) h

module _ (whole : Bool) (word us : List ℕ) where
  pub word_over : word ≡ [] → us ≡ [] → matches whole word us ≡ true
  unfolding matches
  word_over p q = ap₂ (matches whole) p q

  pub more-behind : {u : ℕ} {vs : List ℕ} → whole ≡ true → word ≡ [] → us ≡ u ∷ vs → matches whole word us ≡ false
  unfolding matches
  more-behind {u} {vs} w p q = ap₂ (matches whole) p q ∙ ap (λ (x : Bool). matches x [] (u ∷ vs)) w

  pub not-whole : whole ≡ false → word ≡ [] → matches whole word us ≡ true
  not-whole w p = ap₂ (λ (x : Bool) (y : List ℕ). matches x y us) w p ∙ any-behind us

  module _ {a : ℕ} {rest : List ℕ} (p : word ≡ a ∷ rest) where
    pub units-over : us ≡ [] → matches whole word us ≡ false
    unfolding matches
    units-over q = ap₂ (matches whole) p q

    pub next-unit : {u : ℕ} {vs : List ℕ} → us ≡ u ∷ vs → u ≡ a → matches whole word us ≡ matches whole rest vs
    unfolding matches
    next-unit {u} {vs} q e = ap₂ (matches whole) p q ∙ ap (λ (b : Bool). b && matches whole rest vs) (eq-eqb u a e)

    pub other-unit : {u : ℕ} {vs : List ℕ} → us ≡ u ∷ vs → (u ≡ a → ⊥) → matches whole word us ≡ false
    unfolding matches
    other-unit {u} {vs} q n = ap₂ (matches whole) p q ∙ ap (λ (b : Bool). b && matches whole rest vs) (ne_eqb u a n)

-- whether a word that is over is all that is left
pub all-read : (text : List ℕ) (whole : Bool) (word us : List ℕ) (o : Option Next) (over : Bool) → whole ≡ true → word ≡ [] → us ≡ uncons text o → is_some o ≡ not over
    → over ≡ matches whole word us
all-read text whole word us None over w p q e = not-false over (sym e) ∙ sym (word_over whole word us p q)
all-read text whole word us (Some n) over w p q e = not-true over (sym e) ∙ sym (more-behind whole word us w p q)

module _ (word us : List ℕ) where
  pub contains-here : matches false word us ≡ true → contains word us ≡ true
  contains-here = here word us

  pub contains-none : us ≡ [] → matches false word us ≡ false → contains word us ≡ false
  unfolding contains
  contains-none q n = ap (contains word) q ∙ sym (ap (matches false word) q) ∙ n

  pub contains-later : {u : ℕ} {vs : List ℕ} → us ≡ u ∷ vs → matches false word us ≡ false → contains word us ≡ contains word vs
  unfolding contains
  contains-later {u} {vs} q n =
      ap (contains word) q ∙ ap (λ (b : Bool). b || contains word vs) (sym (ap (matches false word) q) ∙ n)

-- ---- the number of a string

pub spread_end : (n : ℕ) (us : List ℕ) → us ≡ [] → spread n us ≡ n
unfolding spread
spread_end n us e = ap (spread n) e

pub spread-next : (n : ℕ) (us : List ℕ) {u : ℕ} {vs : List ℕ} → us ≡ u ∷ vs → spread n us ≡ spread ((n * 31337 + u % 2 ^ 16) % 2 ^ 18) vs
unfolding spread
spread-next n us e = ap (spread n) e

-- a word that is the whole of some units is those units
pub matches-same : (a b : List ℕ) → matches true a b ≡ true → a ≡ b
unfolding matches
matches-same [] [] e = refl
matches-same [] (u ∷ us) e = let z : ◌≡◌ {A = ℕ} 0 1 = cc in absurd (omega arith)
matches-same (x ∷ a) [] e = let z : ◌≡◌ {A = ℕ} 0 1 = cc in absurd (omega arith)
matches-same (x ∷ a) (u ∷ us) e = by (eqb u x) refl e (matches-same a us)
  where
    by : (t : Bool) → eqb u x ≡ t → (t && matches true a us) ≡ true → (matches true a us ≡ true → a ≡ us) → x ∷ a ≡ u ∷ us
    by true q m f = ap₂ (λ (y : ℕ) (l : List ℕ). y ∷ l) (sym (eqb-true u x q)) (f m)
    by false q m f = let z : ◌≡◌ {A = ℕ} 0 1 = cc in absurd (omega arith)
