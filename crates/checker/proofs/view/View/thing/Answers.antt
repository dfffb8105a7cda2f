-- `checker::view::View::thing` meets its contract: an arm for each action. Assumes nothing.
use native.Mathlib.Numerals.{add-one}
use Rattle.clauses.proofs.Sorts.{row-B}
use Rattle.checker.specs.Things.{asked}
use Rattle.checker.proofs.Laws.{both, put_is}
use Rattle.checker.proofs.Rows.{CC}
use Rattle.checker.proofs.view.View.thing.Goals as goal

pub returns-in-Call : goal.returns-in-Call
unfolding asked
returns-in-Call c = λ k o w. let f = c.args.f in rw (c.in-Call.is, ← add-one f) (both (put_is (c.is_live.ensures k o)) (both (rw (row-B f) at (c.passed.ensures k o w)) (both (CC (c.passed-in-Call.ensures k o w)) (c.lifted.ensures k o w))))

pub returns-in-Take : goal.returns-in-Take
unfolding asked
returns-in-Take c = λ k o w. rw c.in-Take.is (rw (row-B c.args.f) at (c.passed-in-Take.ensures k o w))

pub returns-in-Hand : goal.returns-in-Hand
unfolding asked
returns-in-Hand c = λ k o w. rw c.in-Hand.is (rw (row-B c.args.f) at (c.passed-in-Hand.ensures k o w))
