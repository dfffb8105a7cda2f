-- `text::number_field` meets its contract. Assumes nothing.
use native.Mathlib.Omega.{arith}
use Rattle.text.specs.Text.{decimal}
use Rattle.text.proofs.Writing.{then}
use Rattle.text.proofs.number_field.Goals as goal

pub returns : goal.returns
unfolding decimal
returns c =
    record {
      wrote = then c.put-next.ensures c.numeral.ensures.wrote;
      upper_bound = omega arith;
    }
