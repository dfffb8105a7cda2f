-- The letters of styles, and the two ways to write a signed number.
use Prim.Native.Nat.{ℕ, ◌-◌, ◌^◌, ◌<◌, ◌≤◌}
use mathlib.Core.Path.{◌≡◌, refl, sym, ap, ◌∙◌}
use mathlib.Core.Bool.{true, false}
use mathlib.Core.List.{◌∷◌}
use lib.Dec.{eqb}
use borrow.Author.Tests.{lt-ltb, le-ltb}
use Rattle.text.specs.Text.{decimal}
use Rattle.listing.specs.declared.keywords.Style.{Style}
use Rattle.listing.specs.declared.keywords.Style.TheVariants.{Omitted, Hex, Whole, Signed}
use Rattle.listing.specs.Keywords.{style_letter}
use Rattle.listing.specs.Spelling.{space, minus, signed_decimal, spelled_argument}

of_letter : ℕ → Style
of_letter n =
    elim (eqb n 111) [
      | true ↦ Omitted
      | false ↦ elim (eqb n 104) [ true ↦ Hex | false ↦ elim (eqb n 119) [ true ↦ Whole | false ↦ Signed ] ]
    ]

of-letter : (s : Style) → of_letter (style_letter s) ≡ s
unfolding of_letter style_letter
of-letter Omitted = refl
of-letter Hex = refl
of-letter Whole = refl
of-letter Signed = refl

pub letter-injective : (s t : Style) → style_letter s ≡ style_letter t → s ≡ t
letter-injective s t e = sym (of-letter s) ∙ ap of_letter e ∙ of-letter t

pub letter-rest : (s : Style) → (style_letter s ≡ 111 → ⊥) → (style_letter s ≡ 104 → ⊥) → (style_letter s ≡ 119 → ⊥) → Signed ≡ s
unfolding style_letter
letter-rest Omitted a b c = absurd (a refl)
letter-rest Hex a b c = absurd (b refl)
letter-rest Whole a b c = absurd (c refl)
letter-rest Signed a b c = refl

module _ (a : ℕ) where
  pub signed_low : a < 2 ^ 23 → space ∷ decimal a ≡ spelled_argument Signed a
  unfolding spelled_argument signed_decimal
  signed_low h = rw (lt-ltb a (2 ^ 23) h, signed_decimal)

  pub signed_high : 2 ^ 23 ≤ a → space ∷ minus ∷ decimal (2 ^ 24 - a) ≡ spelled_argument Signed a
  unfolding spelled_argument signed_decimal
  signed_high h = rw (le-ltb a (2 ^ 23) h, signed_decimal)
