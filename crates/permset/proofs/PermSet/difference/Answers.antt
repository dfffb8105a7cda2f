-- `PermSet::difference` meets its contract.
use borrow.Author.Rules.{rules}
use lib.Bits.{and_le_l}
use Rattle.permset.specs.Sets.{difference}
use Rattle.permset.proofs.PermSet.difference.Goals as goal

pub overflow_sub-result : goal.overflow_sub-result
overflow_sub-result c = search and_le_l

pub returns : goal.returns
unfolding difference
returns c = search rules
