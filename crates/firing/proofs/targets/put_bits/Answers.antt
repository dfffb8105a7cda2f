-- `firing::targets::put_bits` meets its contract: what `set` did to the part is said of the whole. Assumes nothing.
use Prim.Native.Nat.{◌+◌, ◌-◌, ◌*◌}
use native.Mathlib.Omega.{arith}
use Rattle.rows.proofs.Laws.{put_back}
use Rattle.firing.proofs.targets.put_bits.Goals as goal

pub returns : goal.returns
returns c = let a = c.args in let at = a.r * a.row in put_back _ at (at + a.row - at) _ _ _ _ c.set.ensures (omega arith)
