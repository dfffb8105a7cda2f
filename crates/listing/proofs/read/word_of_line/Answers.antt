-- `listing::read::word_of_line` meets its contract. Assumes nothing.
use mathlib.Core.Path.{refl, ◌∙◌}
use Rattle.listing.specs.Keywords.{style_letter, entries, packed, packed_all, letters}
use Rattle.listing.proofs.Cutting.{indent-spaces}
use Rattle.listing.proofs.read.word_of_line.Goals as goal

pub word_in-requires : goal.word_in-requires
unfolding letters entries packed_all packed style_letter
word_in-requires c =
    (refl, c.indent-s.ensures.spaces ∙ indent-spaces c.args.l.now, c.indent-s.ensures.upper_bound)
