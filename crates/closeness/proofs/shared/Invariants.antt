-- `closeness::shared` meets its contract. Assumes nothing.
use Prim.Native.Nat.{◌+◌}
use mathlib.Core.Path.{◌≡◌}
use lib.ListN.{drop}
use Rattle.closeness.specs.Closeness.{shared}
use Rattle.closeness.proofs.shared.Given as goal

abbrev pub invariant-loop-i : goal.invariant-loop-i
invariant-loop-i l = shared l.x l.y ≡ l.i + shared (drop l.i l.x) (drop l.i l.y)
