-- `report::handler_line` meets its contract. Assumes nothing.
use mathlib.Core.Path.{◌∙◌}
use native.Mathlib.Omega.{arith}
use Rattle.report.specs.Lines.{handler_line}
use Rattle.text.proofs.Writing.{then, wrote-length}
use Rattle.report.proofs.handler_line.Goals as goal

pub put-requires : goal.put-requires
put-requires c =
    omega (arith, c.set_field-e.ensures.upper_bound, c.word_field-d.ensures.upper_bound, c.word_field-c.ensures.upper_bound, c.number_field-b.ensures.upper_bound, c.number_field-a.ensures.upper_bound, c.requires)

pub shape_of-out : goal.shape_of-out
unfolding handler_line
shape_of-out c =
    wrote-length c.put.ensures
    ∙ wrote-length c.set_field-e.ensures.wrote
    ∙ wrote-length c.word_field-d.ensures.wrote
    ∙ wrote-length c.word_field-c.ensures.wrote
    ∙ wrote-length c.number_field-b.ensures.wrote
    ∙ wrote-length c.number_field-a.ensures.wrote

pub returns : goal.returns
unfolding handler_line
returns c =
    let two = then c.number_field-a.ensures.wrote c.number_field-b.ensures.wrote in
    let three = then two c.word_field-c.ensures.wrote in
    let four = then three c.word_field-d.ensures.wrote in
    let five = then four c.set_field-e.ensures.wrote in record {
      wrote = then five c.put.ensures;
      upper_bound = omega (arith, c.put.ensures.ends, c.set_field-e.ensures.upper_bound, c.word_field-d.ensures.upper_bound, c.word_field-c.ensures.upper_bound, c.number_field-b.ensures.upper_bound, c.number_field-a.ensures.upper_bound);
    }
