-- `queries::is_live` meets its contract. Assumes nothing.
use Rattle.permset.specs.Sets.{member}
use Rattle.queries.proofs.Laws.{live-is}
use Rattle.queries.proofs.is_live.Goals as goal

pub returns : goal.returns
unfolding member
returns c k o = rw c.flags-at.ensures (live-is k _ o _ _ c.requires.1)
