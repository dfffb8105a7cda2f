-- `solver::solve::clear_over` meets its contract. Assumes nothing.
use mathlib.Core.Path.{sym, ◌∙◌}
use Rattle.solver.proofs.Least.{over-cleared, within-kept}
use Rattle.solver.proofs.solve.clear_over.Goals as goal

pub returns-then-ceiling-facts : goal.returns-then-ceiling-facts
returns-then-ceiling-facts c =
    let a = c.args in
    c.fill.ensures.after (λ y h. h) ∙ sym (over-cleared a.facts a.ceiling a.area.now c.if-ceiling-facts.true)

pub returns-else-ceiling-facts : goal.returns-else-ceiling-facts
returns-else-ceiling-facts c = sym (within-kept c.args.facts c.args.ceiling c.args.area.now c.if-ceiling-facts.false)
