-- `overlay::numbers::fault_place` meets its contract. Assumes nothing.
use mathlib.Core.Path.{sym, ap, ◌∙◌}
use Rattle.overlay.specs.Answers.{fault_place}
use Rattle.overlay.proofs.numbers.fault_place.Goals as goal

pub returns-in-Base : goal.returns-in-Base
unfolding fault_place
returns-in-Base c = c.refusal_place.ensures ∙ sym (ap fault_place c.in-Base.is)

pub returns-in-Overlay : goal.returns-in-Overlay
unfolding fault_place
returns-in-Overlay c = c.refusal_place-in-Overlay.ensures ∙ sym (ap fault_place c.in-Overlay.is)

pub returns-in-NoBlock : goal.returns-in-NoBlock
unfolding fault_place
returns-in-NoBlock c = sym (ap fault_place c.in-NoBlock.is)

pub returns-in-TooManyHandlers : goal.returns-in-TooManyHandlers
unfolding fault_place
returns-in-TooManyHandlers c = sym (ap fault_place c.in-TooManyHandlers.is)

pub returns-in-TooManyWords : goal.returns-in-TooManyWords
unfolding fault_place
returns-in-TooManyWords c = sym (ap fault_place c.in-TooManyWords.is)

pub returns-in-ShortOutput : goal.returns-in-ShortOutput
unfolding fault_place
returns-in-ShortOutput c = sym (ap fault_place c.in-ShortOutput.is)
