-- `checker::view::View::parts` meets its contract. Assumes nothing.
use Rattle.checker.proofs.Laws.{both}
use Rattle.checker.proofs.view.View.parts.Goals as goal

pub returns : goal.returns
returns c = λ k o w. both (c.part.ensures k o w) (c.part-2.ensures k o w)
