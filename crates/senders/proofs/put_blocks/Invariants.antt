-- `senders::put_blocks` meets its contract. Assumes nothing.
use Rattle.deliveries.proofs.Positions.{Filled}
use Rattle.senders.specs.Text.{block_line}
use Rattle.senders.proofs.put_blocks.Given as goal

abbrev pub invariant-loop-b : goal.invariant-loop-b
invariant-loop-b l = Filled (block_line l.words l.est) l.words 66000 l.initial.out 0 l.b l.position l.out l.next
