-- `checker::broken` meets its contract. The loop's invariant: what the words passed ask has been looked at. Assumes nothing.
use Rattle.table.specs.Code.{code}
use Rattle.calculus.specs.Layout.{sets}
use Rattle.checker.specs.Lowered.{Lowered}
use Rattle.checker.proofs.Asked.{AskedBelow}
use Rattle.checker.proofs.broken.Given as goal

abbrev pub invariant-loop-p : goal.invariant-loop-p
invariant-loop-p l = Lowered (AskedBelow (code l.words) (sets (code l.words) l.est) l.rho.bits l.p) l.p-end l.lowest
