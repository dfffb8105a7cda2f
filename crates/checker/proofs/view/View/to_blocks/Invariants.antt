-- `checker::view::View::to_blocks` meets its contract. The loop's invariant: b is the next block or the end, and what the blocks from b on ask is
-- still to be looked at. Assumes nothing.
use Prim.Native.Nat.{◌-◌}
use lib.ListN.{length}
use Rattle.table.specs.Code.{code}
use Rattle.calculus.specs.Layout.{sets}
use Rattle.checker.specs.Sends.{AskedFor}
use Rattle.checker.proofs.Blocks.{Looked}
use Rattle.checker.proofs.view.View.to_blocks.Given as goal

abbrev pub invariant-loop-b : goal.invariant-loop-b
invariant-loop-b l = Looked l.self.words.now (AskedFor (code l.self.words.now) (sets (code l.self.words.now) l.self.estimate.now) l.s.p l.s.d l.s.required.bits) l.below l.b l.lowest

abbrev pub decreases-loop-b : goal.decreases-loop-b
decreases-loop-b l = length l.self.words.now - l.b
