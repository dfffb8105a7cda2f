-- `PermSet::lowest` meets its contract.
use borrow.Author.Rules.{rules}
use lib.Count.{count_trailing_zeros}
use Rattle.permset.specs.Sets.{lowest}
use Rattle.permset.proofs.PermSet.lowest.Goals as goal

pub returns : goal.returns
unfolding lowest count_trailing_zeros
returns c = search rules
