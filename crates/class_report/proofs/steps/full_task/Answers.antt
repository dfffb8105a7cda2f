-- `class_report::steps::full_task` meets its contract. Assumes nothing.
use mathlib.Core.Path.{sym, ◌∙◌}
use Rattle.class_report.proofs.Tasks.{full-nothing, full-more}
use Rattle.class_report.proofs.steps.full_task.Goals as goal

pub returns-then-piece-eq0 : goal.returns-then-piece-eq0
returns-then-piece-eq0 c = let a = c.args in c.at_end.ensures ∙ sym (full-nothing a.ended a.piece.now c.if-piece-eq0.true)

pub returns-else-piece-eq0 : goal.returns-else-piece-eq0
returns-else-piece-eq0 c = let a = c.args in sym (full-more a.ended a.piece.now c.if-piece-eq0.false)
