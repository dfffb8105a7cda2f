-- `checker::view::View::in_value` meets its contract. Assumes nothing.
use mathlib.Core.Path.{◌∙◌}
use Rattle.queries.proofs.Laws.{C-sets}
use Rattle.checker.proofs.view.View.in_value.Goals as goal

pub returns : goal.returns
returns c = λ k o. c.has.ensures k o ∙ C-sets k c.args.self.now.estimate.now c.args.p c.args.v
