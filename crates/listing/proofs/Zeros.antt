-- A number of which 0 stands for nothing, and how the code answers it.
use Prim.Native.Nat.{ℕ}
use mathlib.Core.Path.{◌≡◌, sym, ◌∙◌}
use mathlib.Core.Bool.{true, false}
use Rattle.std.specs.Prelude.{Option, None, Some, is_some, unwrap_or}
use Rattle.listing.specs.Listing.{NoneAtZero}

module _ (n : ℕ) where
  pub zero_at-none : (o : Option ℕ) → NoneAtZero n o → is_some o ≡ false → n ≡ 0
  zero_at-none None h e = h
  zero_at-none (Some v) h e = absurd (let o : ⊥ = cc in o)

  pub other_at-some : (o : Option ℕ) → NoneAtZero n o → is_some o ≡ true → n ≡ 0 → ⊥
  other_at-some None h e z = absurd (let o : ⊥ = cc in o)
  other_at-some (Some v) h e z = h.1 (h.0 ∙ z)

  pub or_zero : (o : Option ℕ) → NoneAtZero n o → unwrap_or o 0 ≡ n
  or_zero None h = sym h
  or_zero (Some v) h = h.0
