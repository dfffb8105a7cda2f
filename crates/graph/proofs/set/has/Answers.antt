use Rattle.std.proofs.Common.{◌∙◌, sym, rules}
use borrow.Author.Tests.{le-ltb}
use Rattle.permset.specs.Sets.{member}
use Rattle.permset.proofs.Laws.{member-beyond}
use Rattle.graph.proofs.set.has.Goals as goal

pub returns-then-i-lt64 : goal.returns-then-i-lt64
unfolding member
returns-then-i-lt64 c = search rules

pub returns-else-i-lt64 : goal.returns-else-i-lt64
returns-else-i-lt64 c = le-ltb c.args.i 64 c.if-i-lt64.false ∙ sym (member-beyond 64 _ _ (search rules) c.if-i-lt64.false)
