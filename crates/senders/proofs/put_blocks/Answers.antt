use native.Mathlib.Omega.{arith}
use Rattle.deliveries.proofs.Positions.{filled-start, filled-step, filled-end}
use Rattle.senders.specs.Text.{text}
use Rattle.senders.proofs.put_blocks.Goals as goal

pub loop-b-init : goal.loop-b-init
loop-b-init c = filled-start _ _ _ _

pub loop-b-preserved : goal.loop-b-preserved
loop-b-preserved c =
    let i = c.loop-b in let f = c.put_block-next.ensures in
    filled-step _ _ i.invariant (omega arith) f.added f.upper_bound c.counted-position.ensures

pub shape_of-out : goal.shape_of-out
shape_of-out c = c.loop-b.invariant.added.same

pub returns : goal.returns
unfolding text
returns c = filled-end _ _ c.loop-b.invariant (omega arith)
