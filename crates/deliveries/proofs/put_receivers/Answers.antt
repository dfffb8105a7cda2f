use native.Mathlib.Omega.{arith}
use Rattle.deliveries.specs.Text.{receivers}
use Rattle.deliveries.proofs.Positions.{filled-start, filled-step, filled-end}
use Rattle.deliveries.proofs.put_receivers.Goals as goal

pub loop-q-init : goal.loop-q-init
loop-q-init c = filled-start _ _ _ _

pub loop-q-preserved : goal.loop-q-preserved
loop-q-preserved c =
    let i = c.loop-q in let f = c.put_receiver-next.ensures in
    filled-step _ _ i.invariant (omega arith) f.added f.upper_bound c.counted-to.ensures

pub shape_of-out : goal.shape_of-out
shape_of-out c = c.loop-q.invariant.added.same

pub returns : goal.returns
unfolding receivers
returns c = let i = c.loop-q.invariant in record {
  added = filled-end _ _ i (omega arith);
  upper_bound = omega (arith, i.near, i.inside);
}
