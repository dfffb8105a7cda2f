-- `worklist::view::link` meets its contract: the fields of a link are small. Assumes nothing.
use Rattle.worklist.proofs.Bounds.{small}
use Rattle.worklist.proofs.view.link.Goals as goal

pub returns : goal.returns
returns c = small _ _ _ c.link_at.ensures
