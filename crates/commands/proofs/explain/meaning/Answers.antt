-- `commands::explain::meaning` meets its contract. Assumes nothing.
use mathlib.Core.Path.{ap}
use Prim.Native.Nat.{ℕ}
use Rattle.text.proofs.Writing.{reworded}
use Rattle.commands.specs.Meanings.{line_at, page, meaning}
use Rattle.commands.proofs.explain.meaning.Goals as goal

pub returns : goal.returns
unfolding meaning page
returns c = reworded (ap (λ (k : ℕ). line_at k page) c.row-k.ensures) c.put_line.ensures.wrote
