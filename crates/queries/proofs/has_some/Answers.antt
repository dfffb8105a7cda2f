-- `queries::has_some` meets its contract. Assumes nothing.
use mathlib.Core.Path.{◌∙◌}
use native.Mathlib.Nat.{add-sub_cancel_left}
use Rattle.queries.proofs.Laws.{some_is}
use Rattle.queries.proofs.has_some.Goals as goal

pub returns : goal.returns
returns c k q o w x = simp add-sub_cancel_left at c.any.ensures ∙ some_is k _ o _ w _ c.requires.1 q _ x
