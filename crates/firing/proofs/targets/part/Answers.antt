-- `firing::targets::part` meets its contract. Assumes nothing.
use native.Mathlib.Omega.{arith}
use Rattle.firing.proofs.Fires.{and_in, sum_fits}
use Rattle.firing.proofs.targets.part.Goals as goal

pub overflow_add-result : goal.overflow_add-result
overflow_add-result c =
    omega (arith, sum_fits _ _ _ _ _ c.start-started.ensures.count c.lift.ensures.count, c.lift.auto.est, c.start-started.auto.est, c.requires.0.short)

pub returns : goal.returns
returns c = and_in c.start-started.ensures c.lift.ensures
