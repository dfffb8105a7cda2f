-- `table_tests::cases::each` meets its contract. The loop's invariant: the count of words stays small enough to be added to.
use Rattle.std.proofs.Common.{◌≤◌}
use Rattle.table_tests.proofs.cases.each.Given as goal

abbrev pub invariant-loop-b : goal.invariant-loop-b
invariant-loop-b g l = l.count ≤ 64
