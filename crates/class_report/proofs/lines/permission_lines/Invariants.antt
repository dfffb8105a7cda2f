-- `class_report::lines::permission_lines` meets its contract. Assumes nothing.
use Prim.Native.Nat.{◌-◌, ◌≤◌}
use mathlib.Core.Path.{◌≡◌}
use lib.ListN.{length}
use Rattle.class_report.specs.Writing.{Listed}
use Rattle.class_report.proofs.lines.permission_lines.Given as goal

abbrev pub invariant-loop-i : goal.invariant-loop-i
invariant-loop-i l = (l.i ≤ 24) × (length l.out ≡ length l.initial.out) × Listed l.leaks l.of l.initial.out l.start l.i l.out l.at

abbrev pub decreases-loop-i : goal.decreases-loop-i
decreases-loop-i l = 24 - l.i
