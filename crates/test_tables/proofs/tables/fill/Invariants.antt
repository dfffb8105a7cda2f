-- `test_tables::tables::fill` meets its contract. The loop's invariant: to fill the slice from `i` on is to fill it from `at` on.
use mathlib.Core.Path.{◌≡◌}
use Prim.Native.Nat.{◌-◌}
use Rattle.test_tables.specs.Tables.{numbered, in_turn}
use Rattle.test_tables.proofs.tables.fill.Given as goal

abbrev pub invariant-loop-i : goal.invariant-loop-i
invariant-loop-i l = numbered (in_turn l.even l.odd) (l.i - l.at) l.words l.i ≡ numbered (in_turn l.even l.odd) 0 l.initial.words l.at
