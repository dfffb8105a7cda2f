-- `printout::system::answer_text` meets its contract. Assumes nothing.
use mathlib.Core.Path.{ap, ◌∙◌}
use Rattle.comparison.specs.Values.{answer_of}
use Rattle.text.proofs.Writing.{reworded, then}
use Rattle.printout.proofs.Texts.{told-verdict, verdict_of}
use Rattle.printout.proofs.system.answer_text.Goals as goal

pub returns-in-Ok : goal.returns-in-Ok
returns-in-Ok c =
    reworded (told-verdict c.args.words.now c.args.rho (answer_of c.args.answer) _ (ap answer_of c.in-Ok.is ∙ (verdict_of c.in-Ok.field-0).1))
    (then c.answer_line-at.ensures.wrote c.handlers_of.ensures)
