-- `checker::view::View::delete` meets its contract. Assumes nothing.
use mathlib.Core.Bool.{not}
use mathlib.Core.Path.{ap}
use Prim.Native.Nat.{◌+◌}
use Rattle.calculus.specs.Rules.{flow, two_rule}
use Rattle.clauses.specs.Asks.{sort_at}
use Rattle.clauses.proofs.Sorts.{row-C}
use Rattle.checker.proofs.Laws.{both, both-idle, parted, idle, due, on_value}
use Rattle.checker.proofs.view.View.delete.Goals as goal

pub returns-then-not-has_text : goal.returns-then-not-has_text
unfolding flow two_rule sort_at
returns-then-not-has_text c = λ k j o w n. parted (both-idle (c.parts-whole.ensures k o w) (idle (on_value _ _ (c.has_text.ensures k o w)) (ap not c.if-not-has_text.true)))

pub returns : goal.returns
unfolding flow two_rule sort_at
returns c = λ k j o w n. let a = c.args in parted (both (c.parts-whole.ensures k o w) (due (on_value _ _ (c.has_text.ensures k o w)) (ap not c.if-not-has_text.false) (rw (row-C (a.p + 1), row-C a.p) at (c.passed_by.ensures k j o w n))))
