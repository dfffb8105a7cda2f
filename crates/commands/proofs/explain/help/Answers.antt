-- `commands::explain::help` meets its contract. Assumes nothing.
use Rattle.commands.specs.Meanings.{help}
use Rattle.commands.proofs.explain.help.Goals as goal

pub returns : goal.returns
unfolding help
returns c = c.put.ensures
