-- `checker::view::View::part` meets its contract. Assumes nothing.
use Rattle.checker.proofs.Laws.{both, put_is}
use Rattle.checker.proofs.view.View.part.Goals as goal

pub returns : goal.returns
returns c = λ k o w. both (put_is (c.is_live.ensures k o)) (c.lifted.ensures k o w)
