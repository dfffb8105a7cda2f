-- `queries::later_thing` meets its contract: the lowest digit of the next word in common. Assumes nothing.
use native.Mathlib.Omega.{arith}
use Rattle.permset.specs.Sets.{lowest}
use Rattle.queries.proofs.Nexts.{later-found, later-none}
use Rattle.queries.proofs.later_thing.Goals as goal

pub returns-then-k-row : goal.returns-then-k-row
unfolding lowest
returns-then-k-row c = later-found _ _ _ _ _ _ _ _ c.requires.from_value c.next_common-k.ensures _ (omega arith) (omega arith) (c.type_inv.est _).fits

pub returns : goal.returns
unfolding lowest
returns c = later-none _ _ _ _ _ _ _ _ c.requires.from_value c.next_common-k.ensures _ (omega arith) (omega arith) (omega arith)
