-- `worklist::memory::lowest` meets its contract. Assumes nothing.
use Prim.Native.Nat.{◌<◌}
use native.Mathlib.Omega.{arith}
use Rattle.std.proofs.Common.{w32}
use Rattle.std.proofs.lemmas.Nat.Bits.{bit_at-trailing_zeros}
use Rattle.worklist.proofs.memory.lowest.Goals as goal

pub returns-else-w-eq0 : goal.returns-else-w-eq0
returns-else-w-eq0 c =
    let w = c.args.w in
    let some : 0 < w = omega (arith, c.if-w-eq0.false) in
    let low = bit_at-trailing_zeros w32 w some c.ranges.w.fits in
    (low.0, low.1, some)
