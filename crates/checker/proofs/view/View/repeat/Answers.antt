-- `checker::view::View::repeat` meets its contract. Assumes nothing.
use Rattle.calculus.specs.Rules.{flow}
use Rattle.checker.proofs.Laws.{both, put_is, under-or, on-given}
use Rattle.checker.proofs.view.View.repeat.Goals as goal

pub returns : goal.returns
unfolding flow
returns c = λ k o w. both (c.part.ensures k o w) (both (c.lifted.ensures k o w) (both (c.wakes.ensures k o w) (under-or (on-given (c.in_value.ensures k o)) (put_is (c.in_value-2.ensures k o)))))
