-- `closeness::agree` meets its contract. Assumes nothing.
use mathlib.Core.Path.{ap₂, ◌∙◌}
use lib.Dec.{eqb}
use lib.Pointwise.{pointwise}
use Rattle.closeness.proofs.Laws.{agree-pointwise}
use Rattle.closeness.proofs.agree.Goals as goal

pub returns : goal.returns
returns c = c.eq.ensures ∙ ap₂ (pointwise eqb) c.from.ensures c.from-2.ensures ∙ agree-pointwise _ _ _ _
