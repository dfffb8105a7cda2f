-- What the last arm of a `match` on a number knows where the arms before it are 0, 1, 2, ..: the number is none of those.
-- Assumes nothing.
use mathlib.Core.Path.{◌≡◌}
use Prim.Native.Nat.{ℕ, zero, suc, ◌≤◌}
use native.Mathlib.Omega.{arith}
use Prim.Native.Nat.{zero-le}

-- k is none of the numbers below n
abbrev pub NoneBelow : ℕ → ℕ → Type 0
NoneBelow zero k = Unit {0}
NoneBelow (suc n) k = NoneBelow n k × (k ≡ n → ⊥)

pub outside : (n k : ℕ) → NoneBelow n k → n ≤ k
outside zero k t = zero-le
outside (suc n) k t =
    let h : n ≤ k = outside n k t.0 in
    let d : k ≡ n → ⊥ = t.1 in
    omega arith
