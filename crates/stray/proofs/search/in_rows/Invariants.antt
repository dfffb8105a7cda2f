-- `stray::search::in_rows` meets its contract. The loop's invariant: the rows passed have no stray digit.
-- Assumes nothing.
use mathlib.Core.Path.{◌≡◌}
use mathlib.Core.Bool.{true}
use Prim.Native.Nat.{ℕ, ◌*◌, ◌<◌}
use Rattle.table.specs.Code.{code}
use Rattle.stray.specs.Allowed.{clean}
use Rattle.stray.proofs.search.in_rows.Given as goal

abbrev pub invariant-loop-r : goal.invariant-loop-r
invariant-loop-r l = (l.end ≡ l.r * l.l.row) × ((k : ℕ) → k < l.end → clean (code l.words) l.est k ≡ true)
