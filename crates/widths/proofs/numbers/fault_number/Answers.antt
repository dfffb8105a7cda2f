-- `widths::numbers::fault_number` meets its contract. Assumes nothing.
use mathlib.Core.Path.{sym, ap, ◌∙◌}
use Rattle.widths.specs.Answers.{fault_number}
use Rattle.widths.proofs.numbers.fault_number.Goals as goal

pub returns-in-Table : goal.returns-in-Table
unfolding fault_number
returns-in-Table c = c.refusal_number.ensures ∙ sym (ap fault_number c.in-Table.is)

pub returns-in-TooManyHandlers : goal.returns-in-TooManyHandlers
unfolding fault_number
returns-in-TooManyHandlers c = sym (ap fault_number c.in-TooManyHandlers.is)

pub returns-in-WideName : goal.returns-in-WideName
unfolding fault_number
returns-in-WideName c = sym (ap fault_number c.in-WideName.is)

pub returns-in-ShortOutput : goal.returns-in-ShortOutput
unfolding fault_number
returns-in-ShortOutput c = sym (ap fault_number c.in-ShortOutput.is)
