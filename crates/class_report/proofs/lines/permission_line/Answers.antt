-- `class_report::lines::permission_line` meets its contract. Assumes nothing.
use native.Mathlib.Omega.{arith}
use Rattle.text.proofs.Writing.{then}
use Rattle.class_report.specs.Report.{permission_line}
use Rattle.class_report.proofs.lines.permission_line.Goals as goal

pub returns : goal.returns
unfolding permission_line
returns c =
    let w = then (then c.number_field-a.ensures.wrote c.number_field-b.ensures.wrote) c.number_field-c.ensures.wrote in
    record {
      wrote = then w c.put.ensures;
      upper_bound = omega (arith, c.put.ensures.ends, c.number_field-c.ensures.upper_bound, c.number_field-b.ensures.upper_bound, c.number_field-a.ensures.upper_bound);
    }
