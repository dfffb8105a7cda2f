-- `commands::checking::line_of` meets its contract. Assumes nothing.
use native.Mathlib.Omega.{arith}
use Rattle.commands.proofs.Checks.{line-of-word, line-of-line}
use Rattle.commands.proofs.checking.line_of.Goals as goal

pub returns-then-number-lt40 : goal.returns-then-number-lt40
returns-then-number-lt40 c = (line-of-word _ _ (omega arith), omega arith)

pub returns-else-number-lt40 : goal.returns-else-number-lt40
returns-else-number-lt40 c = (line-of-line _ _ (omega arith), omega arith)
