-- `queries::starts` meets its contract. Assumes nothing.
use mathlib.Core.Path.{◌∙◌}
use Rattle.queries.proofs.Laws.{both_true, first-false}
use Rattle.queries.proofs.starts.Goals as goal

pub returns-then-has : goal.returns-then-has
returns-then-has c k o = let n = c.argument_of-name.ensures in both_true c.if-has.true (rw n at (c.has.ensures k o)) (rw (c.judge.ensures, n, c.handler_at.ensures) at c.delivered.ensures)

pub returns-else-has : goal.returns-else-has
returns-else-has c k o = c.if-has.false ∙ first-false _ c.if-has.false (rw c.argument_of-name.ensures at (c.has.ensures k o))
