-- `commands::overlays::byte_at` meets its contract. Assumes nothing.
use mathlib.Core.Path.{refl, sym}
use native.Mathlib.Omega.{arith}
use Rattle.commands.proofs.PairLaws.{past_end}
use Rattle.commands.proofs.overlays.byte_at.Goals as goal

pub returns-then-i-text : goal.returns-then-i-text
returns-then-i-text c = refl

pub returns-else-i-text : goal.returns-else-i-text
returns-else-i-text c = sym (past_end c.args.text.now c.args.i (omega arith))
