-- `commands::checking::corrected` meets its contract. Assumes nothing.
use mathlib.Core.Path.{ap, ◌∙◌}
use Rattle.text.proofs.Writing.{reworded, line, line_taken}
use Rattle.listing.specs.Listing.{words_of}
use Rattle.commands.specs.Checked.{right_line}
use Rattle.commands.proofs.Checks.{right-first}
use Rattle.commands.proofs.checking.corrected.Goals as goal

pub slice_bounds-right_line-end : goal.slice_bounds-right_line-end
slice_bounds-right_line-end c = (line c.line_words-n.ensures).counts

pub returns : goal.returns
returns c =
    let k = c.args.k in
    let v = c.right_line.ensures in
    record {
      wrote = reworded (ap (right_line k) (line_taken (line c.line_words-n.ensures)) ∙ right-first k (words_of c.args.text.now)) v.wrote;
      upper_bound = v.upper_bound;
    }
