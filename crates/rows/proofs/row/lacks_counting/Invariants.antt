-- `rows::row::lacks_counting` meets its contract. The loop's invariant: what is missing so far. Assumes nothing.
use lib.ListN.{take, drop}
use Rattle.rows.proofs.Sifting.{Missing}
use Rattle.rows.proofs.row.lacks_counting.Given as goal

abbrev pub invariant-loop-i : goal.invariant-loop-i
invariant-loop-i g l = Missing (goal.F-post g l.counts) (take l.row (drop l.from l.est)) (take l.row (drop l.to l.est)) l.i l.missing
