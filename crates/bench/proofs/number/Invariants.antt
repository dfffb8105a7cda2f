-- `bench::number`: the number stays small.
use Prim.Native.Nat.{◌<◌}
use Rattle.bench.proofs.number.Given as goal

abbrev pub invariant-loop-b : goal.invariant-loop-b
invariant-loop-b l = l.n < 1000000000
