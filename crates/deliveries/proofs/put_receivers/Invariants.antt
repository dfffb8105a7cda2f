-- `deliveries::put_receivers` meets its contract. The loop's invariant: what is written and what is left make the whole. Assumes nothing.
use Rattle.deliveries.specs.Text.{receiver}
use Rattle.deliveries.proofs.Positions.{Filled}
use Rattle.deliveries.proofs.put_receivers.Given as goal

abbrev pub invariant-loop-q : goal.invariant-loop-q
invariant-loop-q l = Filled (receiver l.words l.p l.home l.from) l.words 96 l.initial.out l.at l.q l.to l.out l.next
