-- `firing::targets::lift` meets its contract. Assumes nothing.
use Rattle.firing.proofs.Fires.{lift-fired}
use Rattle.firing.proofs.targets.lift.Goals as goal

pub returns : goal.returns
returns c = let a = c.args in lift-fired a.q a.p (rw c.flags-at.ensures at c.gain-added.ensures)
