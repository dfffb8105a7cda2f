-- `commands::overlays::second_start` meets its contract. Assumes nothing.
use Prim.Native.Nat.{◌+◌}
use mathlib.Core.Path.{◌≡◌}
use mathlib.Core.Bool.{false}
use lib.ListN.{drop}
use Rattle.commands.specs.Printed.{before}
use Rattle.commands.proofs.overlays.second_start.Given as goal

abbrev pub invariant-loop-i : goal.invariant-loop-i
invariant-loop-i l = before false l.text ≡ l.i + before l.start (drop l.i l.text)
