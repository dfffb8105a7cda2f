-- `firing::targets::lift_if` meets its contract. Assumes nothing.
use Rattle.firing.proofs.Fires.{a-part, no_part}
use Rattle.firing.proofs.targets.lift_if.Goals as goal

pub returns-then-q-eq0 : goal.returns-then-q-eq0
returns-then-q-eq0 c = no_part c.args.q c.if-q-eq0.true

pub returns : goal.returns
returns c = a-part c.args.q c.if-q-eq0.false c.lift.ensures
