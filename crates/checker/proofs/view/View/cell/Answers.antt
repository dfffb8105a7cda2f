-- `checker::view::View::cell` meets its contract. Assumes nothing.
use Rattle.calculus.specs.Rules.{flow, one_rule}
use Rattle.checker.proofs.Laws.{both}
use Rattle.checker.proofs.Rows.{CB}
use Rattle.checker.proofs.Asking.{own_is}
use Rattle.checker.proofs.view.View.cell.Goals as goal

pub returns : goal.returns
unfolding flow one_rule
returns c = λ k o w. both (c.part.ensures k o w) (both (own_is o (c.in_value.ensures k o)) (CB (c.passed.ensures k o w)))
