use native.Mathlib.Omega.{arith}
use Rattle.rows.proofs.Sifting.{missing-none, missing-next-at}
use Rattle.rows.proofs.row.lacks_counting.Goals as goal

pub loop-i-init : goal.loop-i-init
loop-i-init g c = missing-none _ _ _

pub loop-i-preserved : goal.loop-i-preserved
loop-i-preserved g c =
    let l = c.loop-i in let a = c.args in
    missing-next-at _ a.est.now a.from a.to a.row l.i l.missing _ (omega arith) (omega arith) (omega arith) c.counts-x.ensures l.invariant
