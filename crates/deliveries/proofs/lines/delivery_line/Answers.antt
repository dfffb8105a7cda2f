-- `deliveries::lines::delivery_line` meets its contract. Assumes nothing.
use native.Mathlib.Omega.{arith}
use Rattle.text.proofs.Writing.{then, line}
use Rattle.deliveries.specs.Text.{line as Text·line}
use Rattle.deliveries.proofs.lines.delivery_line.Goals as goal

pub returns : goal.returns
unfolding Text·line
returns c =
    let two = then c.number_field-a.ensures.wrote c.number_field-b.ensures.wrote in
    record {
      line = line (then (then two c.number_field-c.ensures.wrote) c.put_outcome.ensures);
      upper_bound = omega (arith, c.put_outcome.ensures.fits);
    }
