-- `class::report`: the bytes that are held lie in the buffer, which keeps its length.
use Prim.Native.Nat.{◌≤◌}
use lib.ListN.{length}
use Rattle.class.proofs.report.Given as goal

abbrev pub invariant-loop : goal.invariant-loop
invariant-loop g l = (l.w.at ≤ l.w.end) × (l.w.end ≤ length l.buffer)
