-- `listing::spell::keyword_field` meets its contract. Assumes nothing.
use Rattle.text.proofs.Writing.{reworded}
use Rattle.listing.proofs.Letters.{keyword-part, letters-length, keyword-short}
use mathlib.Core.Path.{ap, ◌∙◌}
use native.Mathlib.Omega.{arith}
use lib.ListN.{length}
use Rattle.listing.proofs.spell.keyword_field.Goals as goal

pub overflow_add-to : goal.overflow_add-to
overflow_add-to c =
    omega (arith, c.keyword_size.ensures, keyword-short c.args.k)

pub slice_bounds-put-end : goal.slice_bounds-put-end
slice_bounds-put-end c =
    omega (arith, c.keyword_size.ensures, keyword-short c.args.k, ap length c.requires.0 ∙ letters-length)

pub put-requires : goal.put-requires
put-requires c =
    omega (arith, ap length (keyword-part c.args.k _ _ c.requires.1 c.requires.0 c.keyword_size.ensures), keyword-short c.args.k)

pub returns : goal.returns
returns c =
    let k = keyword-part c.args.k _ _ c.requires.1 c.requires.0 c.keyword_size.ensures in
    let w = reworded k c.put.ensures in
    record {
      wrote = w;
      upper_bound = omega (arith, w.ends, keyword-short c.args.k);
    }
