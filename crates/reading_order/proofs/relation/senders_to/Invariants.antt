-- `reading_order::relation::senders_to` meets its contract. The loop's invariant: the set of those among the blocks from place i on. Assumes nothing.
use Prim.Native.Nat.{ℕ}
use mathlib.Core.Bool.{Bool}
use mathlib.Core.List.{List}
use Rattle.table.specs.Code.{Code}
use Rattle.calculus.specs.Elements.{made}
use Rattle.calculus.specs.Constraint.{C}
use Rattle.calculus.specs.Layout.{sets}
use Rattle.reading_order.proofs.Places.{Collected}
use Rattle.reading_order.proofs.relation.senders_to.Given as goal

abbrev pub passes : List ℕ → ℕ → Code → ℕ → Bool
passes est b c s = sets c est (C b) (made c s)

abbrev pub invariant-loop-i : goal.invariant-loop-i
invariant-loop-i l = Collected l.l (passes l.est l.b) l.blocks l.set l.i
