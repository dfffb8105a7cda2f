use Prim.Native.Nat.{◌+◌}
use mathlib.Core.Path.{◌≡◌}
use native.Mathlib.Omega.{arith}
use lib.ListN.{drop}
use Rattle.closeness.specs.Closeness.{shared}
use Rattle.closeness.proofs.Laws.{shared-none, shared-short, shared-other, shared-more}
use Rattle.closeness.proofs.shared.Goals as goal
use Rattle.closeness.proofs.shared.Goals.{then-y-i-via-then-y-i, then-y-i-via-else-y-i+then-a-y}

pub returns-then-y-i : goal.returns-then-y-i
returns-then-y-i c =
    let i = c.loop-i.i in
    let a = c.args in
    let is : shared a.x.now a.y.now ≡ i + shared (drop i a.x.now) (drop i a.y.now) = c.loop-i.invariant in
    elim c.then-y-i.branch [
      | then-y-i-via-then-y-i w ↦ (omega (arith, shared-short a.x.now a.y.now i (omega arith) w.if-y-i.true), omega arith)
      | then-y-i-via-else-y-i+then-a-y w ↦ (omega (arith, shared-other a.x.now a.y.now i (omega arith) (omega arith) w.if-a-y.true), omega arith)
    ]

pub loop-i-preserved : goal.loop-i-preserved
loop-i-preserved c =
    let i = c.loop-i.i in
    let a = c.args in
    let is : shared a.x.now a.y.now ≡ i + shared (drop i a.x.now) (drop i a.y.now) = c.loop-i.invariant in
    omega (arith, shared-more a.x.now a.y.now i (omega arith) (omega arith) c.if-a-y.false)

pub returns : goal.returns
returns c =
    let i = c.loop-i.i in
    let a = c.args in
    let is : shared a.x.now a.y.now ≡ i + shared (drop i a.x.now) (drop i a.y.now) = c.loop-i.invariant in
    (omega (arith, shared-none a.x.now a.y.now i c.loop-i-test.false), omega arith)
