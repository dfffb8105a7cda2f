-- `deliveries::lines::set_line` meets its contract. Assumes nothing.
use Rattle.text.proofs.Writing.{then}
use Rattle.deliveries.proofs.lines.set_line.Goals as goal

pub returns : goal.returns
returns c = then c.set_field-next.ensures.wrote c.put.ensures
