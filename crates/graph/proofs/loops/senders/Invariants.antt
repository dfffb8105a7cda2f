-- `graph::loops::senders` meets its contract. The loop's invariant: what is found and the senders to what is left are all. Assumes nothing.
use Prim.Native.Nat.{◌≤◌}
use mathlib.Core.Path.{◌≡◌}
use Rattle.permset.specs.Sets.{union}
use Rattle.graph.specs.Search.{senders}
use Rattle.graph.proofs.loops.senders.Given as goal

abbrev pub invariant-loop-left : goal.invariant-loop-left
invariant-loop-left l = (l.left ≤ l.set) × (union l.found (senders l.rows l.left) ≡ senders l.rows l.set)

abbrev pub decreases-loop-left : goal.decreases-loop-left
decreases-loop-left l = l.left
