-- `fixpoint::entry::enter` meets its contract. Assumes nothing.
use mathlib.Core.Bool.{not}
use mathlib.Core.Path.{ap}
use native.Mathlib.Omega.{arith}
use Rattle.fixpoint.proofs.Grows.{few, not_entered, was-entered}
use Rattle.fixpoint.proofs.entry.enter.Goals as goal

pub returns-then-not-opens : goal.returns-then-not-opens
returns-then-not-opens c = not_entered c.requires.0 c.args.rho.bits c.args.p c.requires.3 c.opens.ensures (ap not c.if-not-opens.true)

pub returns : goal.returns
returns c =
    was-entered c.requires.0 c.args.rho.bits c.args.p c.requires.3 c.opens.ensures (ap not c.if-not-opens.false) c.requires.2 c.wake-started.ensures.fired_in
    c.fill-filled.ensures.fired_for c.mark.ensures

pub overflow_add-result : goal.overflow_add-result
overflow_add-result c = omega (arith, few c.requires.1 c.requires.2 (returns c).grown)

pub overflow_add-result-2 : goal.overflow_add-result-2
overflow_add-result-2 c = omega (arith, few c.requires.1 c.requires.2 (returns c).grown)
