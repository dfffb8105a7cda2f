-- `commands::explain::row` meets its contract. Assumes nothing.
use Prim.Native.Nat.{◌+◌}
use mathlib.Core.Path.{◌≡◌}
use lib.ListN.{drop}
use Rattle.commands.specs.Meanings.{numbers, position}
use Rattle.commands.proofs.explain.row.Given as goal

abbrev pub invariant-loop-i : goal.invariant-loop-i
invariant-loop-i l = position l.n numbers ≡ l.i + position l.n (drop l.i numbers)
