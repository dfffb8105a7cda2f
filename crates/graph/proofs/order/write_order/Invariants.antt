-- `graph::order::write_order` meets its contract. The loop's invariant: the order of those that are left, put behind what is written, gives the
-- whole.
use Prim.Native.Nat.{◌+◌, ◌-◌}
use mathlib.Core.Path.{◌≡◌}
use lib.ListN.{length}
use Rattle.graph.specs.Search.{order_from}
use Rattle.graph.proofs.Writing.{Partly}
use Rattle.graph.proofs.order.write_order.Given as goal

abbrev pub invariant-loop-count : goal.invariant-loop-count
invariant-loop-count l =
    Partly l.initial.positions (order_from l.rows l.n l.n l.alive) l.positions l.count (order_from l.rows l.n (l.n - l.count) l.left)
    × (l.count + length (order_from l.rows l.n (l.n - l.count) l.left) ≡ length (order_from l.rows l.n l.n l.alive))
