use Prim.Native.Nat.{◌*◌, ◌+◌}
use mathlib.Core.Path.{◌≡◌}
use native.Mathlib.Omega.{arith}
use Rattle.rows.proofs.Joined.{none_joined, one_more, four_more}
use Rattle.rows.proofs.row.join_counting.Goals as goal

pub loop-k-init : goal.loop-k-init
loop-k-init g c = none_joined _ _ _ _ _

pub overflow_add-added : goal.overflow_add-added
overflow_add-added g c =
    let r = c.requires.rows in
    let n = four_more c.loop-k.invariant r.0 r.1 r.2 _ _ _ _ _ _ (omega arith) c.counts-w.ensures c.counts-x.ensures c.counts-y.ensures c.counts-z.ensures c.set_four-added.ensures in
    omega (arith, n.few)

pub loop-k-preserved : goal.loop-k-preserved
loop-k-preserved g c =
    let r = c.requires.rows in
    let e : 4 * c.loop-k.k + 4 ≡ 4 * (c.loop-k.k + 1) = omega arith in
    rw (← e) (four_more c.loop-k.invariant r.0 r.1 r.2 _ _ _ _ _ _ (omega arith) c.counts-w.ensures c.counts-x.ensures c.counts-y.ensures c.counts-z.ensures c.set_four-added.ensures)

pub overflow_add-added-in-loop-i : goal.overflow_add-added-in-loop-i
overflow_add-added-in-loop-i g c =
    let r = c.requires.rows in
    let n = one_more c.loop-i.invariant r.0 r.1 r.2 _ _ _ (omega arith) c.counts-bits.ensures c.set-added.ensures in
    omega (arith, n.few)

pub loop-i-preserved : goal.loop-i-preserved
loop-i-preserved g c =
    let r = c.requires.rows in
    one_more c.loop-i.invariant r.0 r.1 r.2 _ _ _ (omega arith) c.counts-bits.ensures c.set-added.ensures
