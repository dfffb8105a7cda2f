-- `rows::row::join_counting` meets its contract. The invariant of both loops: what counts of the words so far is or-ed in. Assumes nothing.
use Prim.Native.Nat.{◌*◌}
use Rattle.rows.proofs.Joined.{Running}
use Rattle.rows.proofs.row.join_counting.Given as goal

abbrev pub invariant-loop-k : goal.invariant-loop-k
invariant-loop-k g l = Running (goal.F-post g l.counts) l.row l.a l.b l.fn.est l.est l.added (4 * l.k)

abbrev pub invariant-loop-i : goal.invariant-loop-i
invariant-loop-i g l = Running (goal.F-post g l.counts) l.row l.a l.b l.fn.est l.est l.added l.i
