-- `PermSet::has` meets its contract.
use Rattle.std.proofs.Common.{◌∙◌, sym, rules}
use borrow.Author.Tests.{le-ltb}
use Rattle.permset.proofs.Laws.{member-beyond}
use Rattle.permset.specs.Sets.{member}
use Rattle.permset.proofs.PermSet.has.Goals as goal

pub returns-then-i-lt32 : goal.returns-then-i-lt32
unfolding member
returns-then-i-lt32 c = search rules

pub returns-else-i-lt32 : goal.returns-else-i-lt32
returns-else-i-lt32 c = le-ltb c.args.i 32 c.if-i-lt32.false ∙ sym (member-beyond 32 _ _ (search rules) c.if-i-lt32.false)
