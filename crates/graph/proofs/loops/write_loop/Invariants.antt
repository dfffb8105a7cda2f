-- `graph::loops::write_loop` meets its contract. The loop's invariant: the rest of the walk, put behind what is written, gives the whole.
use Prim.Native.Nat.{◌-◌, ◌≤◌}
use Rattle.graph.specs.Search.{follow}
use Rattle.graph.proofs.Writing.{Partly}
use Rattle.graph.proofs.loops.write_loop.Given as goal

abbrev pub invariant-loop-i : goal.invariant-loop-i
invariant-loop-i l =
    (l.x ≤ l.n) × Partly l.initial.positions (follow l.rows l.alive l.n l.t l.m l.t) l.positions l.i (follow l.rows l.alive l.n l.t (l.m - l.i) l.x)
