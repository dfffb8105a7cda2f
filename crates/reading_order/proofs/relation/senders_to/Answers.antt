use Prim.Native.Nat.{◌-◌}
use native.Mathlib.Omega.{arith}
use Rattle.reading_order.specs.Relation.{senders_to}
use Rattle.reading_order.proofs.Elements.{sender-is}
use Rattle.reading_order.proofs.Places.{collected-start, collected-end, collected-room, collected-step}
use Rattle.reading_order.proofs.relation.senders_to.Invariants.{passes}
use Rattle.reading_order.proofs.relation.senders_to.Goals as goal

pub loop-i-init : goal.loop-i-init
loop-i-init c = collected-start _ _ _

pub overflow_cast-blocks : goal.overflow_cast-blocks
overflow_cast-blocks c = omega (arith, c.type_inv.blocks (c.loop-i.i - 1))

pub overflow_add-l : goal.overflow_add-l
overflow_add-l c =
    let i = c.loop-i in
    let s = c.requires.0 in
    omega (arith, c.requires.1.inside (i.i - 1) (omega (arith, c.loop-i-test.true, i.invariant.inside)), s.wide, s.most)

pub has-requires : goal.has-requires
has-requires c =
    let i = c.loop-i in (
      c.requires.0,
      omega (arith, c.requires.2),
      omega (arith, c.requires.1.inside (i.i - 1) (omega (arith, c.loop-i-test.true, i.invariant.inside))),
    )

pub shifted-set-requires : goal.shifted-set-requires
shifted-set-requires c =
    let i = c.loop-i in
    let h = c.requires in
    collected-room _ _ _ i.set i.i i.invariant c.loop-i-test.true h.1.few

pub loop-i-preserved : goal.loop-i-preserved
loop-i-preserved c =
    let i = c.loop-i in
    let a = c.args in
    collected-step a.l (passes a.est.now a.b) a.blocks.now i.set i.i i.invariant c.loop-i-test.true
    c.has.result
    (λ k o. sender-is k a.l o a.est.now a.b _ _ (c.has.ensures k o))
    c.shifted-set.result c.shifted-set.ensures

pub returns : goal.returns
unfolding senders_to
returns c =
    let i = c.loop-i in
    let a = c.args in
    collected-end a.l (passes a.est.now a.b) a.blocks.now i.set i.i i.invariant c.loop-i-test.false
