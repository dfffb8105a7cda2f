-- `graph::loops::loop_length` meets its contract. The loop's invariant: it is the shortest through the positions below t.
use Rattle.graph.proofs.Fewest.{Best}
use Rattle.graph.proofs.loops.loop_length.Given as goal

abbrev pub invariant-loop-t : goal.invariant-loop-t
invariant-loop-t l = Best l.rows l.alive l.n l.t l.shortest
