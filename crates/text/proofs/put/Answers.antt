-- `text::put` meets its contract. Assumes nothing.
use Prim.Native.Nat.{◌+◌}
use native.Mathlib.Numerals.{add-one}
use native.Mathlib.Nat.{add_assoc}
use native.Mathlib.Omega.{arith}
use lib.ListN.{get_or}
use lib.Seq.{take-suc}
use Rattle.text.proofs.Writing.{wrote-byte, then}
use Rattle.text.proofs.put.Goals as goal

pub loop-i-preserved : goal.loop-i-preserved
loop-i-preserved c =
    let l = c.loop-i in
    let a = c.args in
    rw (← add_assoc, add-one l.i, take-suc a.s.now l.i 0 c.loop-i-test.true)
    (then l.invariant (wrote-byte l.out (a.at + l.i) (get_or a.s.now l.i 0) (omega arith)))
