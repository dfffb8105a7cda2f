-- `graph::set::without` meets its contract. Assumes nothing.
use Prim.Native.Nat.{ℕ}
use mathlib.Core.Path.{ap}
use lib.Bits.{and_le_l}
use Rattle.permset.specs.Sets.{difference}
use Rattle.graph.proofs.set.without.Goals as goal

pub overflow_sub-result : goal.overflow_sub-result
overflow_sub-result c = search and_le_l

pub returns : goal.returns
unfolding difference
returns c = ap (λ (k : ℕ). difference c.args.set k) c.single.ensures
