-- `firing::sends::send_all` meets its contract. Assumes nothing.
use Prim.Native.Nat.{◌+◌, ◌-◌}
use mathlib.Core.Path.{◌≡◌}
use lib.ListN.{length}
use Rattle.table.specs.Code.{code}
use Rattle.table.proofs.Blocks.{Follows}
use Rattle.table.proofs.BlockLoop.{blocks_on}
use Rattle.calculus.specs.Constraint.{each}
use Rattle.calculus.specs.Layout.{WellFormed}
use Rattle.calculus.specs.Estimate.{fire, facts}
use Rattle.clauses.specs.Asks.{at_block}
use Rattle.firing.proofs.sends.send_all.Given as goal

abbrev pub invariant-loop-b : goal.invariant-loop-b
invariant-loop-b l =
    WellFormed (code l.words) l.est × Follows l.words l.b
    × (fire (code l.words) (each (blocks_on l.words l.b) (at_block (code l.words) l.e.x l.e.y l.e.z)) l.est ≡ fire (code l.words) (each (code l.words).blocks (at_block (code l.words) l.e.x l.e.y l.e.z)) l.initial.est)
    × (facts l.est ≡ facts l.initial.est + l.added)

abbrev pub decreases-loop-b : goal.decreases-loop-b
decreases-loop-b l = length l.words - l.b
