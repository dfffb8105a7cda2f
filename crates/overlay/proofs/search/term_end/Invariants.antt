-- `overlay::search::term_end` meets its contract. The loop's invariant: the terms that are left end where the whole ends.
use mathlib.Core.Path.{◌≡◌}
use Prim.Native.Nat.{◌+◌, ◌*◌, ◌≤◌, ◌<◌, max}
use lib.ListN.{length, drop}
use Rattle.table.specs.Code.{skip}
use Rattle.overlay.proofs.search.term_end.Given as goal

abbrev pub invariant-loop-next : goal.invariant-loop-next
invariant-loop-next l =
    (0 < l.left) × (l.left ≤ 1 + 3 * l.next) × (l.next ≤ max (length l.words) l.at)
    × (l.at + skip (drop l.at l.words) 1 ≡ l.next + skip (drop l.next l.words) l.left)
