-- `class_report::steps::at_end` meets its contract. Assumes nothing.
use mathlib.Core.Path.{sym, ap}
use mathlib.Core.Bool.{Bool}
use Rattle.class_report.specs.Steps.{at_end}
use Rattle.class_report.proofs.steps.at_end.Goals as goal

pub returns-then-ended : goal.returns-then-ended
unfolding at_end
returns-then-ended c = let a = c.args in sym (ap (λ (b : Bool). at_end b a.task) c.if-ended.true)

pub returns-else-ended : goal.returns-else-ended
unfolding at_end
returns-else-ended c = let a = c.args in sym (ap (λ (b : Bool). at_end b a.task) c.if-ended.false)
