-- `rows::row::next_common` meets its contract. The loop's invariant: the words passed have nothing in common. Assumes nothing.
use mathlib.Core.Path.{◌≡◌}
use Prim.Native.Nat.{ℕ, ◌≤◌, ◌<◌}
use lib.Bits.{bit_and}
use lib.ListN.{get_or}
use Rattle.rows.proofs.row.next_common.Given as goal

abbrev pub invariant-loop-i : goal.invariant-loop-i
invariant-loop-i l = (k : ℕ) → k < l.i → l.from ≤ k → bit_and (get_or l.row k 0) (get_or l.other k 0) ≡ 0
