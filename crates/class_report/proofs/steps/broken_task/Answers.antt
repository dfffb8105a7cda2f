-- `class_report::steps::broken_task` meets its contract. Assumes nothing.
use mathlib.Core.Path.{sym, ap, ◌∙◌}
use Rattle.class_report.specs.Steps.{broken_task}
use Rattle.class_report.proofs.steps.broken_task.Goals as goal

pub returns-in-TooMany : goal.returns-in-TooMany
unfolding broken_task
returns-in-TooMany c = sym (ap (broken_task c.args.ended) c.in-TooMany.is)

pub returns-in-TooLong : goal.returns-in-TooLong
unfolding broken_task
returns-in-TooLong c = sym (ap (broken_task c.args.ended) c.in-TooLong.is)

pub returns-in-CutShort : goal.returns-in-CutShort
unfolding broken_task
returns-in-CutShort c = c.at_end.ensures ∙ sym (ap (broken_task c.args.ended) c.in-CutShort.is)
