-- `closeness::close` meets its contract. Assumes nothing.
use mathlib.Core.Path.{sym, ap, ◌∙◌}
use Rattle.closeness.specs.Closeness.{close_from, close}
use Rattle.closeness.proofs.Laws.{close-changed, close-added, close-left, close-exchanged}
use Rattle.closeness.proofs.close.Goals as goal

pub returns-then-agree : goal.returns-then-agree
unfolding close
returns-then-agree c = let a = c.args in let s = c.shared-i in sym (ap (close_from a.x.now a.y.now) (sym s.ensures.0) ∙ close-changed a.x.now a.y.now s.result (sym c.agree.ensures ∙ c.if-agree.true))

pub returns-then-agree-2 : goal.returns-then-agree-2
unfolding close
returns-then-agree-2 c = let a = c.args in let s = c.shared-i in sym (ap (close_from a.x.now a.y.now) (sym s.ensures.0) ∙ close-added a.x.now a.y.now s.result (sym c.agree.ensures ∙ c.if-agree.false) (sym c.agree-2.ensures ∙ c.if-agree-2.true))

pub returns-then-agree-3 : goal.returns-then-agree-3
unfolding close
returns-then-agree-3 c = let a = c.args in let s = c.shared-i in sym (ap (close_from a.x.now a.y.now) (sym s.ensures.0) ∙ close-left a.x.now a.y.now s.result (sym c.agree.ensures ∙ c.if-agree.false) (sym c.agree-2.ensures ∙ c.if-agree-2.false) (sym c.agree-3.ensures ∙ c.if-agree-3.true))

pub returns : goal.returns
unfolding close
returns c = let a = c.args in let s = c.shared-i in c.exchanged.ensures ∙ close-exchanged a.x.now a.y.now s.result (sym c.agree.ensures ∙ c.if-agree.false) (sym c.agree-2.ensures ∙ c.if-agree-2.false) (sym c.agree-3.ensures ∙ c.if-agree-3.false) ∙ ap (close_from a.x.now a.y.now) s.ensures.0
