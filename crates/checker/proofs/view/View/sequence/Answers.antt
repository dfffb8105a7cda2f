-- `checker::view::View::sequence` meets its contract. Assumes nothing.
use Rattle.calculus.specs.Rules.{flow, two_rule}
use Rattle.checker.proofs.Laws.{both, parted}
use Rattle.checker.proofs.Rows.{CC}
use Rattle.checker.proofs.view.View.sequence.Goals as goal

pub returns : goal.returns
unfolding flow two_rule
returns c = λ k o w. parted (both (c.parts.ensures k o w) (CC (c.passed.ensures k o w)))
