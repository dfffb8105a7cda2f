-- `firing::targets::mark` meets its contract: what `put` did to the part is said of the whole. Assumes nothing.
use Prim.Native.Nat.{◌+◌, ◌-◌, ◌*◌}
use native.Mathlib.Omega.{arith}
use Rattle.rows.proofs.Laws.{put_back}
use Rattle.firing.proofs.Fires.{put-fired}
use Rattle.firing.proofs.targets.mark.Goals as goal

pub returns : goal.returns
returns c = let a = c.args in let at = a.r * a.l.row in put-fired a.r a.v (put_back _ at (at + a.l.row - at) _ _ _ _ c.put.ensures (omega arith))
