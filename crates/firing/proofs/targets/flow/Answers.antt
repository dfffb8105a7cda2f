-- `firing::targets::flow` meets its contract: the row is or-ed in. Assumes nothing.
use Rattle.firing.proofs.Fires.{sub-fired}
use Rattle.firing.proofs.targets.flow.Goals as goal

pub returns : goal.returns
returns c = let a = c.args in sub-fired a.a a.b c.join-added.ensures
