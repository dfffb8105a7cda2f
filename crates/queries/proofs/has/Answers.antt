-- `queries::has` meets its contract. Assumes nothing.
use Rattle.permset.specs.Sets.{member}
use native.Mathlib.Omega.{arith}
use Rattle.queries.proofs.Laws.{has-is}
use Rattle.queries.proofs.has.Goals as goal

pub returns : goal.returns
unfolding member
returns c k o = has-is k _ o _ _ _ c.requires.1 (omega arith)
