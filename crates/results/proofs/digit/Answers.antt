-- `results::digit` meets its contract: the digit is one of 32.
-- Assumes nothing.
use mathlib.Core.Path.{◌∙◌}
use Prim.Native.Nat.{ℕ, ◌*◌, ◌^◌, ◌<◌}
use native.Mathlib.Nat.{mod-eq_of_lt, one-mul}
use lib.Pow.{pow-lt}
use Rattle.results.proofs.digit.Goals as goal

small : (i : ℕ) → i < 32 → 1 * 2 ^ i < 2 ^ 32
small i h = rw one-mul (pow-lt h)

pub returns : goal.returns
returns c = mod-eq_of_lt (small _ c.requires) ∙ one-mul _
