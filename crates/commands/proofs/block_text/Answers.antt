-- `commands::block_text` meets its contract. Assumes nothing.
use mathlib.Core.Path.{ap₂}
use Rattle.text.proofs.Writing.{reworded}
use Rattle.std.specs.Prelude.{ℕ, Option}
use Rattle.commands.specs.Printed.{key_text}
use Rattle.commands.proofs.block_text.Goals as goal

pub returns : goal.returns
returns c =
    reworded (ap₂ (λ (x y : Option ℕ). key_text x y c.args.input.now) c.value_of-n.ensures c.value_of-s.ensures) c.key_text.ensures
