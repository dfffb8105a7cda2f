-- `masks::set_digit` meets its contract: one word is or-ed in.
-- Assumes nothing.
use mathlib.Core.Path.{◌≡◌, sym, ap, ◌∙◌}
use Prim.Native.Nat.{ℕ, ◌/◌, ◌%◌, ◌^◌}
use mathlib.Core.List.{List}
use lib.Bits.{bit_or}
use lib.ListN.{get_or, set}
use Rattle.calculus.specs.Layout.{mark}
use Rattle.calculus.proofs.Facts.{pour-one}
use Rattle.masks.proofs.set_digit.Goals as goal

one_word : (ws : List ℕ) (n x : ℕ) → x ≡ 2 ^ (n % 32) → set ws (n / 32) (bit_or (get_or ws (n / 32) 0) x) ≡ mark ws n
unfolding mark
one_word ws n x e = ap (λ (y : ℕ). set ws (n / 32) (bit_or (get_or ws (n / 32) 0) y)) e ∙ sym (pour-one ws (n / 32) (2 ^ (n % 32)))

pub returns : goal.returns
returns c = one_word _ _ _ c.digit.ensures
