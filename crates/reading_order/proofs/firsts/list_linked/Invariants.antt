-- `reading_order::firsts::list_linked` meets its contract. The loop's invariant: b is the next block or the end, and the blocks from there on, put
-- behind what is written, give the whole. Assumes nothing.
use Prim.Native.Nat.{◌+◌, ◌-◌}
use mathlib.Core.Path.{◌≡◌}
use lib.ListN.{length}
use Rattle.table.specs.Code.{code}
use Rattle.table.proofs.Blocks.{Follows}
use Rattle.table.proofs.BlockLoop.{blocks_on}
use Rattle.graph.proofs.Writing.{Partly}
use Rattle.reading_order.proofs.firsts.list_linked.Given as goal

abbrev pub invariant-loop-b : goal.invariant-loop-b
invariant-loop-b l =
    Follows l.words l.b × Partly l.initial.firsts (code l.words).blocks l.firsts l.n (blocks_on l.words l.b)
    × (l.n + length (blocks_on l.words l.b) ≡ length (code l.words).blocks)

abbrev pub decreases-loop-b : goal.decreases-loop-b
decreases-loop-b l = length l.words - l.b
