-- `masks::fill_made` meets its contract. The loop's invariant: what the words passed make is set, and nothing behind the four rows.
-- Assumes nothing.
use mathlib.Core.Path.{◌≡◌}
use Prim.Native.Nat.{◌+◌, ◌*◌}
use lib.ListN.{drop}
use Rattle.table.specs.Code.{code}
use Rattle.masks.specs.Masks.{Filled}
use Rattle.masks.proofs.fill_made.Given as goal

abbrev pub invariant-loop-p : goal.invariant-loop-p
invariant-loop-p l =
    Filled (code l.words) l.row (l.first + l.p) l.masks × (drop (4 * l.row) l.masks ≡ drop (4 * l.row) l.initial.masks)
