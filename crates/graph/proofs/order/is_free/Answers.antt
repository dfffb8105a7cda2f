-- `graph::order::is_free` meets its contract. Assumes nothing.
use Rattle.permset.specs.Sets.{member}
use Rattle.graph.specs.Search.{is_free}
use Rattle.graph.proofs.Digits.{both-tests, first-test}
use Rattle.graph.proofs.order.is_free.Goals as goal

pub returns-then-has : goal.returns-then-has
unfolding is_free
returns-then-has c =
    both-tests (member c.args.left c.args.p) _ _
    c.has.ensures c.if-has.true

pub returns-else-has : goal.returns-else-has
unfolding is_free
returns-else-has c =
    first-test (member c.args.left c.args.p) _ _ c.has.ensures
    c.if-has.false
