-- `overlay::numbers::fault_number` meets its contract. Assumes nothing.
use mathlib.Core.Path.{sym, ap, ◌∙◌}
use Prim.Native.Nat.{ℕ, ◌+◌}
use native.Mathlib.Omega.{arith}
use Rattle.overlay.specs.Answers.{fault_number}
use Rattle.overlay.proofs.Refusals.{number_small}
use Rattle.overlay.proofs.numbers.fault_number.Goals as goal

pub overflow_add-result : goal.overflow_add-result
overflow_add-result c = omega (arith, number_small c.in-Overlay.r, c.refusal_number-in-Overlay.ensures)

pub returns-in-Base : goal.returns-in-Base
unfolding fault_number
returns-in-Base c = c.refusal_number.ensures ∙ sym (ap fault_number c.in-Base.is)

pub returns-in-Overlay : goal.returns-in-Overlay
unfolding fault_number
returns-in-Overlay c = ap (λ (n : ℕ). 100 + n) c.refusal_number-in-Overlay.ensures ∙ sym (ap fault_number c.in-Overlay.is)

pub returns-in-NoBlock : goal.returns-in-NoBlock
unfolding fault_number
returns-in-NoBlock c = sym (ap fault_number c.in-NoBlock.is)

pub returns-in-TooManyHandlers : goal.returns-in-TooManyHandlers
unfolding fault_number
returns-in-TooManyHandlers c = sym (ap fault_number c.in-TooManyHandlers.is)

pub returns-in-TooManyWords : goal.returns-in-TooManyWords
unfolding fault_number
returns-in-TooManyWords c = sym (ap fault_number c.in-TooManyWords.is)

pub returns-in-ShortOutput : goal.returns-in-ShortOutput
unfolding fault_number
returns-in-ShortOutput c = sym (ap fault_number c.in-ShortOutput.is)
