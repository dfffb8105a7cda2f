-- `commands::arguments::value_of` meets its contract. Assumes nothing.
use mathlib.Core.Path.{◌≡◌}
use lib.ListN.{drop}
use Rattle.commands.specs.Arguments.{folded, value_of}
use Rattle.commands.proofs.arguments.value_of.Given as goal

abbrev pub invariant-loop-b : goal.invariant-loop-b
invariant-loop-b l = value_of l.base l.digits ≡ folded l.base l.n (drop l.b-index l.digits)
