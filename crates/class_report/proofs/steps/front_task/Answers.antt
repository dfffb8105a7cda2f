-- `class_report::steps::front_task` meets its contract. Assumes nothing.
use mathlib.Core.Path.{sym, ap, ◌∙◌}
use Rattle.std.specs.Prelude.{Ok}
use Rattle.class_report.specs.Steps.{front_task}
use Rattle.class_report.proofs.steps.front_task.Goals as goal

pub returns-in-Err : goal.returns-in-Err
unfolding front_task
returns-in-Err c = c.broken_task.ensures ∙ sym (ap (front_task c.args.ended) c.in-Err.is)

pub returns-in-None : goal.returns-in-None
unfolding front_task
returns-in-None c = c.at_end.ensures ∙ sym (ap (front_task c.args.ended) (c.in-Ok.is ∙ ap Ok c.in-None.is))

pub returns-in-Some : goal.returns-in-Some
unfolding front_task
returns-in-Some c = sym (ap (front_task c.args.ended) (c.in-Ok.is ∙ ap Ok c.in-Some.is))
