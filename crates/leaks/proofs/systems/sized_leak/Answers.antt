-- `leaks::systems::sized_leak` meets its contract. Assumes nothing.
use Prim.Native.Nat.{ℕ}
use mathlib.Core.Path.{ap₂, ◌∙◌}
use Rattle.calculus.specs.Answer.{refused}
use Rattle.verdict.specs.Limits.{answer_under}
use Rattle.text.proofs.Writing.{reworded}
use Rattle.printout.specs.Program.{answer_text, unless_wide}
use Rattle.leaks.proofs.Laws.{leak-largest}
use Rattle.leaks.proofs.systems.sized_leak.Goals as goal

pub returns : goal.returns
returns c =
    let a = c.args in
    reworded
    (ap₂ (λ (m n : ℕ). answer_text a.rho a.words.now (unless_wide a.words.now (refused 1 0) (answer_under a.words.now a.rho a.bound a.ceiling m n))) c.requires.1 c.requires.2
    ∙ leak-largest a.words.now a.rho a.bound a.ceiling c.requires.0)
    c.tell_within.ensures.wrote
