-- `test_tables::tables::copy` meets its contract. The loop's invariant: to store the rest from `i` on is to store all.
use mathlib.Core.Path.{◌≡◌}
use Prim.Native.Nat.{◌-◌}
use lib.ListN.{drop}
use lib.Seq.{sets}
use Rattle.test_tables.proofs.tables.copy.Given as goal

abbrev pub invariant-loop-i : goal.invariant-loop-i
invariant-loop-i l = sets l.words l.i (drop (l.i - l.at) l.from) ≡ sets l.initial.words l.at l.from
