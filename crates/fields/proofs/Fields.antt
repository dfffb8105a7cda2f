-- A number of fields that have room is read back, field by field. Assumes nothing.
use Prim.Native.Nat.{ℕ, ◌+◌, ◌/◌, ◌%◌, ◌^◌}
use mathlib.Core.Path.{◌≡◌, sym, ap, ◌∙◌}
use mathlib.Core.List.{List, [], ◌∷◌}
use native.Mathlib.Nat.{mod-eq_of_lt, div-eq_of_lt, div-one, div-div-eq-div-mul, add-mul-mod_self_left, add-mul-div_left, zero-add}
use lib.Pow.{pow-add, pow_pos}
use Rattle.fields.specs.Fields.{Field, packed, Fit, ReadBack}

fields-from : (at : ℕ) (fs : List Field) (n : ℕ) → n / 2 ^ at ≡ packed fs → Fit fs → ReadBack at fs n
fields-from at [] n e h = tt
fields-from at (f ∷ fs) n e h =
    let w = f.width in
    let rest = packed fs in (
      ap (λ (x : ℕ). x % 2 ^ w) e ∙ add-mul-mod_self_left f.value (2 ^ w) rest ∙ mod-eq_of_lt h.0,
      fields-from (at + w) fs n
          (ap (λ (x : ℕ). n / x) (pow-add 2 at w)
          ∙ sym (div-div-eq-div-mul n (2 ^ at) (2 ^ w))
          ∙ ap (λ (x : ℕ). x / 2 ^ w) e
          ∙ add-mul-div_left f.value rest (pow_pos w)
          ∙ ap (λ (x : ℕ). x + rest) (div-eq_of_lt h.0)
          ∙ zero-add rest) h.1,
    )

-- the law of every answer
pub read_back : (fs : List Field) (n : ℕ) → n ≡ packed fs → Fit fs → ReadBack 0 fs n
read_back fs n e h = fields-from 0 fs n (div-one n ∙ e) h
