-- `listing::spell::signed_field` meets its contract. Assumes nothing.
use native.Mathlib.Omega.{arith}
use Rattle.text.proofs.Writing.{reworded}
use Rattle.listing.proofs.Styles.{signed_low, signed_high}
use Rattle.listing.proofs.spell.signed_field.Goals as goal

pub returns-then-a-lt8388608 : goal.returns-then-a-lt8388608
returns-then-a-lt8388608 c =
    let a = c.args.a in
    record {
      wrote = reworded (signed_low a (omega arith)) c.number_field.ensures.wrote;
      upper_bound = omega arith;
    }

pub returns-else-a-lt8388608 : goal.returns-else-a-lt8388608
returns-else-a-lt8388608 c =
    let a = c.args.a in
    record {
      wrote = reworded (signed_high a (omega arith)) c.number_field-else-a-lt8388608.ensures.wrote;
      upper_bound = omega arith;
    }
