-- `checker::view::View::branch` meets its contract. Assumes nothing.
use Rattle.calculus.specs.Rules.{flow}
use Rattle.checker.proofs.Laws.{both}
use Rattle.checker.proofs.Rows.{CC}
use Rattle.checker.proofs.view.View.branch.Goals as goal

pub returns : goal.returns
unfolding flow
returns c = λ k o w. both (c.part.ensures k o w) (both (c.lifted.ensures k o w) (both (c.lifted-2.ensures k o w) (both (c.wakes.ensures k o w) (both (c.wakes-2.ensures k o w) (both (CC (c.passed.ensures k o w)) (CC (c.passed-2.ensures k o w)))))))
