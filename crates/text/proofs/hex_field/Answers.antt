-- `text::hex_field` meets its contract. Assumes nothing.
use native.Mathlib.Omega.{arith}
use Rattle.text.specs.Text.{hex_word}
use Rattle.text.proofs.Writing.{then}
use Rattle.text.proofs.hex_field.Goals as goal

pub returns : goal.returns
unfolding hex_word
returns c =
    record {
      wrote = then c.put-next.ensures c.numeral.ensures.wrote;
      upper_bound = omega arith;
    }
