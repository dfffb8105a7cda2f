-- `stray::search::outside` meets its contract. The loop's invariant: the words passed have no digit outside the row.
-- Assumes nothing.
use mathlib.Core.Path.{◌≡◌}
use mathlib.Core.Bool.{true}
use Prim.Native.Nat.{ℕ, ◌+◌, ◌≤◌, ◌<◌}
use Rattle.stray.specs.Allowed.{inside}
use Rattle.stray.proofs.search.outside.Given as goal

abbrev pub invariant-loop-i : goal.invariant-loop-i
invariant-loop-i l = (k : ℕ) → l.at ≤ k → k < l.at + l.i → inside l.est l.row l.at k ≡ true
