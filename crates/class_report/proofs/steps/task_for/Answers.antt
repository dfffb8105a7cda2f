-- `class_report::steps::task_for` meets its contract. Assumes nothing.
use mathlib.Core.Path.{sym, ap, ◌∙◌}
use Rattle.class_report.specs.Steps.{front_task}
use Rattle.class_report.proofs.Tasks.{task-front, task-full}
use Rattle.class_report.proofs.steps.task_for.Goals as goal

pub returns-then-position-lt10000 : goal.returns-then-position-lt10000
returns-then-position-lt10000 c =
    let a = c.args in
    c.front_task.ensures ∙ ap (front_task a.ended) c.front_of.ensures ∙ sym (task-front a.ended a.piece.now a.position c.if-position-lt10000.true)

pub returns-else-position-lt10000 : goal.returns-else-position-lt10000
returns-else-position-lt10000 c =
    let a = c.args in
    c.full_task.ensures ∙ sym (task-full a.ended a.piece.now a.position c.if-position-lt10000.false)
