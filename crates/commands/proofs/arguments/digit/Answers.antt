-- `commands::arguments::digit` meets its contract. Assumes nothing.
use mathlib.Core.Path.{sym}
use native.Mathlib.Omega.{arith}
use Rattle.commands.proofs.Digits.{digit_low, digit-decimal, digit-between, digit-letter, digit-high}
use Rattle.commands.proofs.arguments.digit.Goals as goal

pub returns-in_default : goal.returns-in_default
returns-in_default c = omega (arith, digit_low c.args.b (omega arith))

pub returns-in-48-to-57 : goal.returns-in-48-to-57
returns-in-48-to-57 c = (sym (digit-decimal c.args.b (omega arith) (omega arith)), omega arith)

pub returns-in_default-2 : goal.returns-in_default-2
returns-in_default-2 c = omega (arith, digit-between c.args.b (omega arith) (omega arith) (omega arith))

pub returns-in-97-to-102 : goal.returns-in-97-to-102
returns-in-97-to-102 c = (sym (digit-letter c.args.b (omega arith) (omega arith) (omega arith) (omega arith)), omega arith)

pub returns-in_default-3 : goal.returns-in_default-3
returns-in_default-3 c = omega (arith, digit-high c.args.b (omega arith) (omega arith) (omega arith) (omega arith))
