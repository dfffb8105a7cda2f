-- `stray::search::in_flags` meets its contract. The loop's invariant: the words passed have no stray digit.
-- Assumes nothing.
use mathlib.Core.Path.{◌≡◌}
use mathlib.Core.Bool.{true}
use Prim.Native.Nat.{ℕ, ◌≤◌, ◌<◌}
use Rattle.table.specs.Code.{code}
use Rattle.stray.specs.Allowed.{clean}
use Rattle.stray.proofs.search.in_flags.Given as goal

abbrev pub invariant-loop-k : goal.invariant-loop-k
invariant-loop-k l = (i : ℕ) → l.initial.k ≤ i → i < l.k → clean (code l.words) l.est i ≡ true
