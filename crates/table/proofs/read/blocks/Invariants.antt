-- `table::read::blocks` meets its contract. The loop's invariant: what is left, with the keys so far, gives the outcome of the whole.
-- Assumes nothing.
use mathlib.Core.Path.{◌≡◌}
use mathlib.Core.List.{[]}
use Prim.Native.Nat.{◌-◌}
use lib.ListN.{drop, replicate}
use Rattle.table.specs.Scan.{name, scan}
use Rattle.table.proofs.read.blocks.Given as goal

abbrev pub invariant-loop-done : goal.invariant-loop-done
invariant-loop-done l =
    scan l.names (drop 1 l.words) [] 1 (replicate l.count name)
    ≡ scan l.names (drop l.at l.words) (drop (64 - l.done) l.keys) l.at (replicate (l.count - l.done) name)
