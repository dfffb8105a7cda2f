-- `graph::loops::is_closing` meets its contract. Assumes nothing.
use Prim.Native.Nat.{ℕ}
use mathlib.Core.Path.{ap, ◌∙◌}
use Rattle.permset.specs.Sets.{member}
use Rattle.graph.specs.Search.{closes}
use Rattle.graph.proofs.loops.is_closing.Goals as goal

pub returns : goal.returns
unfolding closes
returns c = c.has.ensures ∙ ap (λ (s : ℕ). member s c.args.t) c.reaching.ensures
