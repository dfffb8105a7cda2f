-- `checker::view::View::exercise` meets its contract. Assumes nothing.
use mathlib.Core.Bool.{not}
use mathlib.Core.Path.{refl, ap, ◌∙◌}
use Rattle.permset.specs.Sets.{within}
use Rattle.calculus.specs.Rules.{leaf_rule}
use Rattle.checker.proofs.Laws.{decided, both, put_is, idle, due, on-only}
use Rattle.checker.proofs.Rows.{permitted-is}
use Rattle.checker.proofs.view.View.exercise.Goals as goal

pub returns-then-not-within : goal.returns-then-not-within
unfolding leaf_rule
returns-then-not-within c = λ k o w q. idle (on-only (c.within.ensures ∙ ap (within c.args.set.bits) q)) (ap not c.if-not-within.true)

pub returns : goal.returns
unfolding leaf_rule
returns c = λ k o w q. let a = c.args in due (on-only (c.within.ensures ∙ ap (within a.set.bits) q)) (ap not c.if-not-within.false) (both (decided (c.within-2.ensures ∙ rw (c.of.ensures, c.flags-at.ensures) refl) (permitted-is a.self.now.layout a.self.now.estimate.now a.self.now.sized k o w a.p c.requires.0 a.set.bits c.requires.1)) (put_is (c.in_value.ensures k o)))
