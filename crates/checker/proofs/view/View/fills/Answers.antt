-- `checker::view::View::fills` meets its contract. Assumes nothing.
use Rattle.checker.proofs.Laws.{under-or, on-given}
use Rattle.checker.proofs.view.View.fills.Goals as goal

pub returns : goal.returns
returns c = λ k o w. under-or (on-given (c.in_value.ensures k o)) (c.full.ensures k o w)
