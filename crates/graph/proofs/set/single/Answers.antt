-- `graph::set::single` meets its contract. Assumes nothing.
use Prim.Native.Nat.{◌^◌}
use mathlib.Core.Path.{◌∙◌}
use native.Mathlib.Nat.{one-mul}
use borrow.Author.Rules.{rules}
use lib.Dec.{lit<}
use lib.Pow.{shl_exact}
use Rattle.graph.proofs.set.single.Goals as goal

pub returns : goal.returns
returns c = shl_exact 1 c.args.i 64 (lit< tt) (search rules) ∙ one-mul (2 ^ c.args.i)
