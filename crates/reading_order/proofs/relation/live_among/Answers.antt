use Prim.Native.Nat.{◌-◌}
use native.Mathlib.Omega.{arith}
use Rattle.reading_order.specs.Relation.{live_among}
use Rattle.reading_order.proofs.Places.{collected-start, collected-end, collected-room, collected-step}
use Rattle.reading_order.proofs.relation.live_among.Invariants.{passes}
use Rattle.reading_order.proofs.relation.live_among.Goals as goal

pub loop-i-init : goal.loop-i-init
loop-i-init c = collected-start _ _ _

pub overflow_cast-blocks : goal.overflow_cast-blocks
overflow_cast-blocks c = omega (arith, c.type_inv.blocks (c.loop-i.i - 1))

pub is_live-requires : goal.is_live-requires
is_live-requires c =
    let i = c.loop-i in
    let h = c.requires in
    (h.0, h.1.inside (i.i - 1) (omega (arith, c.loop-i-test.true, i.invariant.inside)))

pub shifted-set-requires : goal.shifted-set-requires
shifted-set-requires c =
    let i = c.loop-i in
    let h = c.requires in
    collected-room _ _ _ i.set i.i i.invariant c.loop-i-test.true h.1.few

pub loop-i-preserved : goal.loop-i-preserved
loop-i-preserved c =
    let i = c.loop-i in
    let a = c.args in
    collected-step a.l (passes a.est.now) a.blocks.now i.set i.i i.invariant c.loop-i-test.true
    c.is_live.result c.is_live.ensures c.shifted-set.result c.shifted-set.ensures

pub returns : goal.returns
unfolding live_among
returns c =
    let i = c.loop-i in
    let a = c.args in
    collected-end a.l (passes a.est.now) a.blocks.now i.set i.i i.invariant c.loop-i-test.false
