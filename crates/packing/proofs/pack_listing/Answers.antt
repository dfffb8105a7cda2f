-- `packing::pack_listing` meets its contract. Assumes nothing.
use borrow.Author.Rules.{rules}
use Rattle.packing.proofs.Laws.{held-some}
use Rattle.packing.proofs.pack_listing.Goals as goal

pub returns : goal.returns
returns c =
    let all = c.put_held.ensures _ c.line_words-n.ensures in record {
      wrote = all.0;
      result_value = all.1;
    }

pub put_held-requires : goal.put_held-requires
put_held-requires c = (search rules, c.requires, held-some _ _ _ c.line_words-n.ensures)
