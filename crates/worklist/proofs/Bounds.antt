-- How large the numbers of a link get, and the bits of a word.
use Prim.Native.Nat.{ℕ, ◌+◌, ◌/◌, ◌^◌, ◌<◌}
use mathlib.Core.Path.{◌≡◌, ap}
use mathlib.Core.List.{List}
use native.Mathlib.Decide.{dec_lt}
use native.Mathlib.Omega.{arith}
use Rattle.std.specs.Int.{bit_at}
use Rattle.std.proofs.Math.Nat.{div-div-eq-div-mul}
use Rattle.std.proofs.lemmas.Nat.{pow-add}
use Rattle.std.proofs.lemmas.Nat.Bits.{bit_at_above}
use Rattle.table.specs.declared.Link.{Link}
use Rattle.table.specs.Links.{link_at, unpack}

-- the fields of a link
pub small : (l : Link) (ls : List ℕ) (p : ℕ) → l ≡ link_at ls p → (l.end ≡ (link_at ls p).end) × (l.end < 2048) × (l.binder < 2048)
unfolding link_at unpack
small l ls p e =
    let end = ap (λ (k : Link). k.end) e in
    let binder = ap (λ (k : Link). k.binder) e in
    (end, omega arith, omega arith)

-- a bit of what is left of a word after a shift
pub shifted : (w i k : ℕ) → w < 2 ^ 32 → bit_at (w / 2 ^ i) k ≡ 1 → i + k < 32
shifted w i k h e = go (dec_lt (i + k) 32)
  where
    whole : bit_at (w / 2 ^ i) k ≡ bit_at w (i + k)
    whole = rw (div-div-eq-div-mul w (2 ^ i) (2 ^ k), ← pow-add 2 i k)

    go : Dec (i + k < 32) → i + k < 32
    go (yes b) = b
    go (no b) = absurd (omega (arith, e, whole, bit_at_above w 32 (i + k) h (omega arith)))
