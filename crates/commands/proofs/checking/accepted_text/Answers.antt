-- `commands::checking::accepted_text` meets its contract. Assumes nothing.
use Rattle.text.proofs.Writing.{then}
use Rattle.commands.specs.Checked.{checked_text}
use Rattle.commands.proofs.checking.accepted_text.Goals as goal

pub returns : goal.returns
unfolding checked_text
returns c = then c.number_field-next.ensures.wrote c.put.ensures
