-- `firing::targets::fill` meets its contract. Assumes nothing.
use Prim.Native.Nat.{◌*◌}
use lib.ListN.{replicate}
use Rattle.rows.specs.Rows.{Poured}
use Rattle.rows.proofs.Full.{full}
use Rattle.firing.proofs.targets.fill.Given as goal

abbrev pub invariant-loop-k : goal.invariant-loop-k
invariant-loop-k l = Poured l.initial.est l.est (l.r * l.row) (replicate l.k full) l.added
