-- `checker::view::View::bind` meets its contract. Assumes nothing.
use Rattle.calculus.specs.Rules.{flow}
use Rattle.checker.proofs.Laws.{both, parted}
use Rattle.checker.proofs.Rows.{CC, CB}
use Rattle.checker.proofs.view.View.bind.Goals as goal

pub returns : goal.returns
unfolding flow
returns c = λ k o w. parted (both (c.parts.ensures k o w) (both (CB (c.passed.ensures k o w)) (CC (c.passed-2.ensures k o w))))
