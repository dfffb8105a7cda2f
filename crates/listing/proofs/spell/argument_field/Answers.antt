-- `listing::spell::argument_field` meets its contract. Assumes nothing.
use mathlib.Core.Path.{sym, ap}
use native.Mathlib.Omega.{arith}
use Rattle.text.proofs.Writing.{reworded, wrote_nothing}
use Rattle.listing.specs.declared.keywords.Style.{Style}
use Rattle.listing.specs.Spelling.{spelled_argument}
use Rattle.listing.proofs.spell.argument_field.Goals as goal

pub returns-in-Omitted : goal.returns-in-Omitted
unfolding spelled_argument
returns-in-Omitted c =
    record {
      wrote = reworded (ap (λ (t : Style). spelled_argument t c.args.a) (sym c.in-Omitted.is)) (wrote_nothing _ _ (omega arith));
      upper_bound = omega arith;
    }

pub returns-in-Hex : goal.returns-in-Hex
unfolding spelled_argument
returns-in-Hex c =
    record {
      wrote = reworded (ap (λ (t : Style). spelled_argument t c.args.a) (sym c.in-Hex.is)) c.set_field.ensures.wrote;
      upper_bound = omega arith;
    }

pub returns-in-Whole : goal.returns-in-Whole
unfolding spelled_argument
returns-in-Whole c =
    record {
      wrote = reworded (ap (λ (t : Style). spelled_argument t c.args.a) (sym c.in-Whole.is)) c.number_field.ensures.wrote;
      upper_bound = omega arith;
    }

pub returns-in-Signed : goal.returns-in-Signed
returns-in-Signed c =
    record {
      wrote = reworded (ap (λ (t : Style). spelled_argument t c.args.a) (sym c.in-Signed.is)) c.signed_field.ensures.wrote;
      upper_bound = omega arith;
    }
