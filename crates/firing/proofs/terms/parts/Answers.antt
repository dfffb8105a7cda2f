-- `firing::terms::parts` meets its contract. Assumes nothing.
use native.Mathlib.Omega.{arith}
use Rattle.firing.proofs.Fires.{and_in, three_fit}
use Rattle.firing.proofs.terms.parts.Goals as goal

pub overflow_add-result-2 : goal.overflow_add-result-2
overflow_add-result-2 c =
    let a = c.part-first in let b = c.part_if-second in let d = c.part_if in
    omega (arith, three_fit c.requires.0 a.ensures b.ensures d.ensures a.auto.est b.auto.est d.auto.est)

pub overflow_add-result : goal.overflow_add-result
overflow_add-result c = omega (arith, overflow_add-result-2 c)

pub returns : goal.returns
returns c = and_in c.part-first.ensures (and_in c.part_if-second.ensures c.part_if.ensures)
