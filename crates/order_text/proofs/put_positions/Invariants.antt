-- `order_text::put_positions` meets its contract. Assumes nothing.
use Rattle.order_text.proofs.Laws.{Spaced}
use Rattle.order_text.proofs.put_positions.Given as goal

abbrev pub invariant-loop-position : goal.invariant-loop-position
invariant-loop-position l = Spaced l.positions l.initial.out l.at l.position-index l.out l.next
