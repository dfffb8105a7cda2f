-- `handler_lines::set_line` meets its contract. Assumes nothing.
use native.Mathlib.Omega.{arith}
use Rattle.text.proofs.Writing.{line}
use Rattle.handler_lines.proofs.set_line.Goals as goal

pub returns : goal.returns
returns c = let f = c.set_field.ensures in record {
  line = line f.wrote;
  upper_bound = omega (arith, f.upper_bound);
}
