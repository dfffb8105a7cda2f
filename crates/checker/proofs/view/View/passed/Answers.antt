-- `checker::view::View::passed` meets its contract. Assumes nothing.
use mathlib.Core.Path.{ap}
use mathlib.Core.Bool.{not}
use Rattle.checker.proofs.Laws.{decided}
use Rattle.checker.proofs.Rows.{passed_is}
use Rattle.checker.proofs.view.View.passed.Goals as goal

pub returns : goal.returns
returns c = λ k o w. decided (ap not c.lacks.ensures) (passed_is _ _ c.args.self.now.sized k o w _ _ c.requires.0 c.requires.1)
