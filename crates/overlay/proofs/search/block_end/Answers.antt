-- `overlay::search::block_end` meets its contract.
-- Assumes nothing.
use mathlib.Core.Path.{◌∙◌}
use Rattle.overlay.proofs.Ends.{block-ends}
use Rattle.overlay.proofs.search.block_end.Goals as goal

pub returns : goal.returns
returns c = c.term_end.ensures ∙ block-ends _ _
