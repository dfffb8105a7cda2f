-- `checker::view::View::apply` meets its contract. Assumes nothing.
use Rattle.calculus.specs.Rules.{flow, two_rule}
use Rattle.clauses.specs.Asks.{thing_at}
use Rattle.checker.proofs.Laws.{both, parted}
use Rattle.clauses.proofs.Sorts.{row-C}
use Rattle.checker.specs.Things.{asked}
use Rattle.checker.proofs.view.View.apply.Goals as goal

pub returns : goal.returns
unfolding flow two_rule thing_at asked
returns c = λ k j o w n. parted (both (c.parts.ensures k o w) (rw (row-C c.args.d) at (c.things.ensures k j o w n)))
