-- `widths::numbers::fault_place` meets its contract. Assumes nothing.
use mathlib.Core.Path.{sym, ap, ◌∙◌}
use Rattle.widths.specs.Answers.{fault_place}
use Rattle.widths.proofs.numbers.fault_place.Goals as goal

pub returns-in-Table : goal.returns-in-Table
unfolding fault_place
returns-in-Table c = c.refusal_place.ensures ∙ sym (ap fault_place c.in-Table.is)

pub returns-in-TooManyHandlers : goal.returns-in-TooManyHandlers
unfolding fault_place
returns-in-TooManyHandlers c = sym (ap fault_place c.in-TooManyHandlers.is)

pub returns-in-WideName : goal.returns-in-WideName
unfolding fault_place
returns-in-WideName c = sym (ap fault_place c.in-WideName.is)

pub returns-in-ShortOutput : goal.returns-in-ShortOutput
unfolding fault_place
returns-in-ShortOutput c = sym (ap fault_place c.in-ShortOutput.is)
