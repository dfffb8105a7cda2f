-- `graph::set::only` meets its contract. Assumes nothing.
use Prim.Native.Nat.{ℕ}
use mathlib.Core.Path.{ap}
use lib.Bits.{bit_and}
use Rattle.graph.proofs.set.only.Goals as goal

pub returns : goal.returns
returns c = ap (λ (k : ℕ). bit_and k c.args.set) c.single.ensures
