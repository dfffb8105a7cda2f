-- `report::refusal_line` meets its contract. Assumes nothing.
use native.Mathlib.Omega.{arith}
use Rattle.report.specs.Lines.{refusal_line}
use Rattle.text.proofs.Writing.{then}
use Rattle.report.proofs.refusal_line.Goals as goal

pub returns : goal.returns
unfolding refusal_line
returns c =
    record {
      wrote = then (then c.number_field-a.ensures.wrote c.number_field-b.ensures.wrote) c.put.ensures;
      upper_bound = omega (arith, c.put.ensures.ends);
    }
