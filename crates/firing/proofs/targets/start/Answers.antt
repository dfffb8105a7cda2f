-- `firing::targets::start` meets its contract: what `put` did to the part is said of the whole. Assumes nothing.
use Prim.Native.Nat.{◌+◌, ◌-◌}
use mathlib.Core.Path.{sym}
use native.Mathlib.Omega.{arith}
use Rattle.rows.proofs.Laws.{put-back-whole}
use Rattle.firing.proofs.Fires.{live-fired}
use Rattle.firing.proofs.targets.start.Goals as goal

pub returns : goal.returns
returns c = let at = c.flags-at in live-fired c.args.q (rw (sym at.ensures) (put-back-whole _ at.result (at.result + 1 - at.result) _ _ _ c.put.ensures (omega arith)))
