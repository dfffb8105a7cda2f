-- `checker::view::View::get` meets its contract. Assumes nothing.
use mathlib.Core.Bool.{not}
use mathlib.Core.Path.{ap}
use native.Mathlib.Omega.{arith}
use Rattle.calculus.specs.Rules.{flow, two_rule}
use Rattle.clauses.specs.Asks.{sort_at, thing_at}
use Rattle.clauses.proofs.Sorts.{row-C}
use Rattle.checker.specs.Things.{asked}
use Rattle.checker.proofs.Laws.{both, both-idle, parted, put_is, idle, due, on_value}
use Rattle.checker.proofs.Asking.{get-is}
use Rattle.checker.proofs.view.View.get.Goals as goal

pub returns-then-not-has_text : goal.returns-then-not-has_text
unfolding flow two_rule sort_at thing_at asked
returns-then-not-has_text c = λ k j o w n. parted (both-idle (c.parts-whole.ensures k o w) (idle (on_value _ _ (c.has_text.ensures k o w)) (ap not c.if-not-has_text.true)))

pub returns-then-not-has_some : goal.returns-then-not-has_some
unfolding flow two_rule sort_at thing_at asked
returns-then-not-has_some c = λ k j o w n. parted (both (c.parts-whole.ensures k o w) (due (on_value _ _ (c.has_text.ensures k o w)) (ap not c.if-not-has_text.false) (get-is k j (both-idle (rw (row-C c.args.p) at (c.fills-filled.ensures k o w)) (idle (on_value _ _ (c.has_some.ensures k (sort_at 1 k) o w (n.mask 1 (omega arith)))) (ap not c.if-not-has_some.true))))))

pub returns : goal.returns
unfolding flow two_rule sort_at thing_at asked
returns c = λ k j o w n. parted (both (c.parts-whole.ensures k o w) (due (on_value _ _ (c.has_text.ensures k o w)) (ap not c.if-not-has_text.false) (get-is k j (both (rw (row-C c.args.p) at (c.fills-filled.ensures k o w)) (due (on_value _ _ (c.has_some.ensures k (sort_at 1 k) o w (n.mask 1 (omega arith)))) (ap not c.if-not-has_some.false) (both (put_is (c.in_value.ensures k o)) (rw (row-C c.args.p) at (c.things.ensures k j o w n))))))))
