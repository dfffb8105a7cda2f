-- `rows::row::put` meets its contract: a word gains the digit exactly if it did not have it. Assumes nothing.
use mathlib.Core.Path.{◌≡◌}
use Prim.Native.Nat.{ℕ, ◌*◌, ◌/◌, ◌%◌, ◌^◌, ◌<◌}
use native.Mathlib.Nat.{mod-eq_of_lt, one-mul}
use native.Mathlib.Omega.{arith}
use lib.Pow.{pow-lt}
use Rattle.rows.proofs.Laws.{digit-there, digit-new}
use Rattle.rows.proofs.row.put.Goals as goal

-- the bit as the code makes it
one_bit : (i : ℕ) → i < 32 → 1 * 2 ^ i % 2 ^ 32 ≡ 2 ^ i
one_bit i h = let e : 1 * 2 ^ i ≡ 2 ^ i = one-mul (2 ^ i) in rw e (mod-eq_of_lt (pow-lt h))

pub returns-then-old-bit-eq0 : goal.returns-then-old-bit-eq0
returns-then-old-bit-eq0 c =
    let a = c.args in
    let bit = one_bit (a.v % 32) (omega arith) in
    let old = (c.slice_known-1.given (a.v / 32)).fits in
    rw bit (digit-new a.row.now (a.v / 32) (a.v % 32) (omega arith) old (omega arith) (rw bit at c.if-old-bit-eq0.true))

pub returns : goal.returns
returns c =
    let a = c.args in
    digit-there a.row.now (a.v / 32) (a.v % 32) (rw (one_bit (a.v % 32) (omega arith)) at c.if-old-bit-eq0.false)
