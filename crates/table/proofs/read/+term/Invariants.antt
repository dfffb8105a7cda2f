-- `table::read::term`: the measure is what is left of the depths. The loop's invariant: with the parts so far read, what is left gives the outcome of the whole.
use Prim.Native.Nat.{◌-◌}
use Rattle.table.proofs.read.Parts.{Left}
use Rattle.table.proofs.read.+term.Given as goal

abbrev pub decreases-term : goal.decreases-term
decreases-term l = 65 - l.depth

abbrev pub invariant-loop-i : goal.invariant-loop-i
invariant-loop-i l = Left l.names l.words l.at l.depth l.binders l.w l.next l.i
