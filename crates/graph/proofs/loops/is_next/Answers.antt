-- `graph::loops::is_next` meets its contract. Assumes nothing.
use mathlib.Core.Path.{◌∙◌}
use lib.ListN.{get_or}
use Rattle.permset.specs.Sets.{member}
use Rattle.graph.specs.Search.{is_next}
use Rattle.graph.proofs.Digits.{both-tests, first-test}
use Rattle.graph.proofs.loops.is_next.Goals as goal

pub returns-then-has : goal.returns-then-has
unfolding is_next
returns-then-has c =
    let a = c.args in
    c.has-then-has.ensures
    ∙ both-tests (member a.set a.z) (member (get_or a.rows.now a.z 0) a.x) _ c.has.ensures
    c.if-has.true

pub returns-else-has : goal.returns-else-has
unfolding is_next
returns-else-has c =
    first-test (member c.args.set c.args.z) _ _ c.has.ensures
    c.if-has.false
