-- `checker::view::View::assign` meets its contract. Assumes nothing.
use native.Mathlib.Omega.{arith}
use Rattle.calculus.specs.Rules.{flow, two_rule}
use Rattle.clauses.specs.Asks.{sort_at, thing_at}
use Rattle.clauses.proofs.Sorts.{row-C}
use Rattle.checker.specs.Things.{asked}
use Rattle.checker.proofs.Laws.{both, parted, under-or, on_value}
use Rattle.checker.proofs.Rows.{CC}
use Rattle.checker.proofs.Asking.{assign-is}
use Rattle.checker.proofs.view.View.assign.Goals as goal

pub returns : goal.returns
unfolding flow two_rule sort_at thing_at asked
returns c = λ k j o w n. let a = c.args in parted (both (c.parts.ensures k o w) (assign-is k j (both (under-or (on_value _ _ (c.has_some.ensures k (sort_at 2 k) o w (n.mask 2 (omega arith)))) (CC (c.passed.ensures k o w))) (rw (row-C a.d) at (c.things.ensures k j o w n)))))
