use native.Mathlib.Omega.{arith}
use Rattle.deliveries.proofs.Positions.{filled-start, filled-step, filled-end}
use Rattle.senders.proofs.put_senders.Goals as goal

pub loop-s-init : goal.loop-s-init
loop-s-init c = filled-start _ _ _ _

pub loop-s-preserved : goal.loop-s-preserved
loop-s-preserved c =
    let i = c.loop-s in let f = c.put_sender-next.ensures in
    filled-step _ _ i.invariant (omega arith) f.added f.upper_bound c.counted-position.ensures

pub shape_of-out : goal.shape_of-out
shape_of-out c = c.loop-s.invariant.added.same

pub returns : goal.returns
returns c = let i = c.loop-s.invariant in record {
  added = filled-end _ _ i (omega arith);
  upper_bound = omega (arith, i.near, i.inside);
}
