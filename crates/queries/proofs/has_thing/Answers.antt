-- `queries::has_thing` meets its contract. Assumes nothing.
use Rattle.permset.specs.Sets.{member}
use Rattle.queries.proofs.has_thing.Goals as goal

pub returns : goal.returns
unfolding member
returns c = rw c.common_from.ensures
