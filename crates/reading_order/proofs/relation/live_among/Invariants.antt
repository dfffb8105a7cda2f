-- `reading_order::relation::live_among` meets its contract. The loop's invariant: the set of those among the blocks from place i on. Assumes nothing.
use Prim.Native.Nat.{ℕ}
use mathlib.Core.Bool.{Bool}
use mathlib.Core.List.{List}
use Rattle.table.specs.Code.{Code}
use Rattle.calculus.specs.Constraint.{L}
use Rattle.calculus.specs.Layout.{sets}
use Rattle.reading_order.proofs.Places.{Collected}
use Rattle.reading_order.proofs.relation.live_among.Given as goal

abbrev pub passes : List ℕ → Code → ℕ → Bool
passes est c b = sets c est (L b) 0

abbrev pub invariant-loop-i : goal.invariant-loop-i
invariant-loop-i l = Collected l.l (passes l.est) l.blocks l.set l.i
