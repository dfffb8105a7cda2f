-- `rows::row::some` meets its contract. The loop's invariant: some word is not 0 so far, or from here on. Assumes nothing.
use mathlib.Core.Path.{◌≡◌}
use mathlib.Core.Bool.{not, ◌||◌}
use lib.Dec.{eqb}
use lib.ListN.{drop}
use Rattle.calculus.specs.ResultWords.{nonzero}
use Rattle.rows.proofs.row.some.Given as goal

abbrev pub invariant-loop-word : goal.invariant-loop-word
invariant-loop-word l = nonzero l.words ≡ (not (eqb l.bits 0) || nonzero (drop l.word-index l.words))
