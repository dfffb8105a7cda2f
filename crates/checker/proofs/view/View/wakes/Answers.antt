-- `checker::view::View::wakes` meets its contract. Assumes nothing.
use Rattle.checker.proofs.Laws.{put_is, under-or, on-given}
use Rattle.checker.proofs.view.View.wakes.Goals as goal

pub returns : goal.returns
returns c = λ k o w. under-or (on-given (c.in_value.ensures k o)) (put_is (c.is_live.ensures k o))
