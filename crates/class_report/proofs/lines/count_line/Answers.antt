-- `class_report::lines::count_line` meets its contract. Assumes nothing.
use native.Mathlib.Omega.{arith}
use Rattle.text.proofs.Writing.{then}
use Rattle.class_report.specs.Report.{count_line}
use Rattle.class_report.proofs.lines.count_line.Goals as goal

pub returns : goal.returns
unfolding count_line
returns c =
    record {
      wrote = then (then c.number_field-a.ensures.wrote c.number_field-b.ensures.wrote) c.put.ensures;
      upper_bound = omega (arith, c.put.ensures.ends, c.number_field-b.ensures.upper_bound, c.number_field-a.ensures.upper_bound);
    }
