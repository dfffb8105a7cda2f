-- `checker::view::View::read` meets its contract. Assumes nothing.
use Rattle.calculus.specs.Rules.{flow, one_rule}
use Rattle.clauses.specs.Asks.{thing_at}
use Rattle.checker.proofs.Laws.{both}
use Rattle.clauses.proofs.Sorts.{row-C}
use Rattle.checker.specs.Things.{asked}
use Rattle.checker.proofs.view.View.read.Goals as goal

pub returns : goal.returns
unfolding flow one_rule thing_at asked
returns c = λ k j o w n. both (c.part.ensures k o w) (rw (row-C c.args.p) at (c.things.ensures k j o w n))
