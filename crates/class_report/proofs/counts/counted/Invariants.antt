-- `class_report::counts::counted` meets its contract. Assumes nothing.
use Prim.Native.Nat.{◌-◌, ◌≤◌}
use mathlib.Core.Path.{◌≡◌}
use mathlib.Core.List.{◌++◌}
use lib.ListN.{length, take, drop}
use Rattle.class_report.specs.Tally.{counted}
use Rattle.class_report.proofs.counts.counted.Given as goal

abbrev pub invariant-loop-i : goal.invariant-loop-i
invariant-loop-i l = (l.i ≤ 24) × (length l.initial.next ≡ 24) × (length l.next ≡ 24) × (l.next ≡ take l.i (counted 0 l.leak.bits l.initial.next) ++ drop l.i l.initial.next)

abbrev pub decreases-loop-i : goal.decreases-loop-i
decreases-loop-i l = 24 - l.i
