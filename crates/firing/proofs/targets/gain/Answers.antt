-- `firing::targets::gain` meets its contract: what `set` did to the part is said of the whole. Assumes nothing.
use Prim.Native.Nat.{◌+◌, ◌-◌}
use mathlib.Core.Path.{sym}
use native.Mathlib.Omega.{arith}
use Rattle.rows.proofs.Laws.{put-back-whole}
use Rattle.firing.proofs.targets.gain.Goals as goal

pub returns : goal.returns
returns c = let at = c.flags-at in rw (sym at.ensures) (put-back-whole _ at.result (at.result + 1 - at.result) _ _ _ c.set.ensures (omega arith))
