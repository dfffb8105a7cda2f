-- `firing::targets::permit` meets its contract. Assumes nothing.
use Rattle.firing.proofs.Fires.{permit-fired}
use Rattle.firing.proofs.targets.permit.Goals as goal

pub returns : goal.returns
returns c = permit-fired c.args.p c.args.bits c.requires.1 c.requires.2 c.gain-added.ensures
