-- `stray::allowed::allow` meets its contract: the plain elements, then those of the words.
-- Assumes nothing.
use native.Mathlib.Omega.{arith}
use Rattle.table.specs.Code.{code}
use Rattle.calculus.proofs.Places.{fits-row}
use Rattle.stray.proofs.Named.{plain-allowed}
use Rattle.stray.proofs.allowed.allow.Goals as goal

pub set_plain-requires : goal.set_plain-requires
set_plain-requires c =
    record {
      by_index = c.requires.by_index;
      lead_in_bounds = omega (arith, fits-row (code c.args.words.now), c.requires.words_value.1.row, c.requires.words_value.1.lead, c.requires.words_value.2);
    }

pub set_words-requires : goal.set_words-requires
set_words-requires c =
    let k = c.set_plain.auto.row in record {
      words_value = (c.requires.words_value.0, c.requires.words_value.1, omega (arith, c.requires.words_value.2, k), omega (arith, c.requires.words_value.3, k));
      allowed = plain-allowed (code c.args.words.now) c.args.h c.args.l c.requires.words_value.1 _ c.set_plain.ensures;
    }
