-- `readers::leak` meets its contract. The loop's invariant: b is the next block or the end, and what is found so far with what
-- the blocks from there on leak is the leak.
-- Assumes nothing.
use mathlib.Core.Path.{◌≡◌}
use Prim.Native.Nat.{◌-◌}
use lib.Bits.{bit_or}
use lib.ListN.{length}
use Rattle.table.specs.Code.{code}
use Rattle.table.proofs.Blocks.{Follows}
use Rattle.calculus.specs.Estimate.{leak_among, leak}
use Rattle.table.proofs.BlockLoop.{blocks_on}
use Rattle.readers.proofs.leak.Given as goal

abbrev pub invariant-loop-b : goal.invariant-loop-b
invariant-loop-b l =
    Follows l.words l.b × (bit_or l.bits (leak_among (code l.words) l.rho.bits l.est (blocks_on l.words l.b)) ≡ leak (code l.words) l.rho.bits l.est)

abbrev pub decreases-loop-b : goal.decreases-loop-b
decreases-loop-b l = length l.words - l.b
