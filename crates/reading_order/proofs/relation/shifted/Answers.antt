-- `reading_order::relation::shifted` meets its contract. Assumes nothing.
use native.Mathlib.Omega.{arith}
use Rattle.reading_order.specs.Relation.{digit}
use Rattle.reading_order.proofs.Places.{digit-is}
use Rattle.reading_order.proofs.relation.shifted.Goals as goal

pub returns-then-first : goal.returns-then-first
unfolding digit
returns-then-first c = omega (arith, digit-is _ _ c.if-first.true)

pub returns-else-first : goal.returns-else-first
unfolding digit
returns-else-first c = omega (arith, digit-is _ _ c.if-first.false)
