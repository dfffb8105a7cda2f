-- `commands::explain_text` meets its contract. Assumes nothing.
use mathlib.Core.Path.{sym, ap, ◌∙◌}
use Rattle.text.proofs.Writing.{reworded}
use Rattle.commands.specs.Printed.{value_text}
use Rattle.commands.proofs.explain_text.Goals as goal

pub returns-in-Some : goal.returns-in-Some
unfolding value_text
returns-in-Some c = reworded (ap value_text (sym c.in-Some.is ∙ c.value_of.ensures)) c.sentence.ensures

pub returns-in-None : goal.returns-in-None
unfolding value_text
returns-in-None c = reworded (ap value_text (sym c.in-None.is ∙ c.value_of.ensures)) c.help.ensures
