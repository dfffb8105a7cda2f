-- `report::verdict_line` meets its contract. Assumes nothing.
use native.Mathlib.Omega.{arith}
use Rattle.report.specs.Lines.{verdict_line}
use Rattle.text.proofs.Writing.{then}
use Rattle.report.proofs.verdict_line.Goals as goal

pub returns : goal.returns
unfolding verdict_line
returns c =
    let two = then c.set_field-a.ensures.wrote c.set_field-b.ensures.wrote in
    let three = then two c.word_field-c.ensures.wrote in
    let four = then three c.first_field-d.ensures.wrote in
    let five = then four c.number_field-e.ensures.wrote in record {
      wrote = then five c.put.ensures;
      upper_bound = omega (arith, c.put.ensures.ends, c.number_field-e.ensures.upper_bound, c.first_field-d.ensures.upper_bound, c.word_field-c.ensures.upper_bound, c.set_field-b.ensures.upper_bound, c.set_field-a.ensures.upper_bound);
    }
