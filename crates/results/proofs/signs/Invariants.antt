-- `results::signs` meets its contract. The loop's invariant: the or over the entries passed.
-- Assumes nothing.
use mathlib.Core.Path.{◌≡◌}
use Rattle.calculus.proofs.SignResults.{signs_below}
use Rattle.results.specs.Signs.{sign_table}
use Rattle.results.proofs.signs.Given as goal

abbrev pub invariant-loop-i : goal.invariant-loop-i
invariant-loop-i l = l.r ≡ signs_below (sign_table l.sum) l.x l.y l.i
