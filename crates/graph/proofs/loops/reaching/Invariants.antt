-- `graph::loops::reaching` meets its contract. The loop's invariant: the set is that of so many messages.
use mathlib.Core.Path.{◌≡◌}
use Rattle.graph.specs.Search.{reaching}
use Rattle.graph.proofs.loops.reaching.Given as goal

abbrev pub invariant-loop : goal.invariant-loop
invariant-loop l = l.set ≡ reaching l.rows l.alive l.t l.counter
