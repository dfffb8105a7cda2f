-- `checker::view::View::word` meets its contract. Assumes nothing.
use mathlib.Core.Path.{sym, ◌∙◌}
use Rattle.checker.proofs.Guards.{block-node, body-in}
use Rattle.checker.proofs.Placed.{accepted-at}
use Rattle.checker.proofs.Sent.{gap-silent, block-silent}
use Rattle.checker.proofs.view.View.word.Goals as goal

pub block-requires : goal.block-requires
block-requires c = let g = c.requires in body-in (accepted-at g) _ (sym c.item_at.ensures ∙ c.in-Block.is) g.inside

pub returns-in-Gap : goal.returns-in-Gap
returns-in-Gap c = gap-silent c.requires c.args.rho.bits (sym c.item_at.ensures ∙ c.in-Gap.is)

pub returns-in-Block : goal.returns-in-Block
returns-in-Block c =
    let g = c.requires in let i = sym c.item_at.ensures ∙ c.in-Block.is in
    block-silent g c.args.rho.bits i (c.lowered.ensures _ _ (c.block.ensures _ g.ready.laid g.well (block-node (accepted-at g) _ i)))

pub returns-in-Term : goal.returns-in-Term
returns-in-Term c = c.term.ensures c.args.rho.bits
