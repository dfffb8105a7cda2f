-- `checker::view::View::lifted` meets its contract. Assumes nothing.
use Rattle.checker.proofs.Laws.{decided}
use Rattle.checker.proofs.Rows.{lifted-is}
use mathlib.Core.Path.{refl, ◌∙◌}
use Rattle.checker.proofs.view.View.lifted.Goals as goal

pub returns : goal.returns
returns c = λ k o w. decided (c.within.ensures ∙ rw (c.of.ensures, c.of-2.ensures, c.flags-from.ensures, c.flags-to.ensures) refl) (lifted-is c.args.self.now.layout c.args.self.now.estimate.now c.args.self.now.sized k o w c.args.p c.requires.1 c.args.q c.requires.0)
