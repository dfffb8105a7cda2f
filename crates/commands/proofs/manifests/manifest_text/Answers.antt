-- `commands::manifests::manifest_text` meets its contract. Assumes nothing.
use mathlib.Core.Path.{sym, ap, ◌∙◌}
use Prim.Native.Nat.{ℕ}
use Rattle.report.specs.Lines.{refusal_line}
use Rattle.text.proofs.Writing.{reworded}
use Rattle.manifest.specs.Answer.{outcome}
use Rattle.commands.specs.Printed.{outcome_text}
use Rattle.commands.proofs.manifests.manifest_text.Goals as goal

pub returns-in-Ok : goal.returns-in-Ok
returns-in-Ok c =
    let r = c.read.ensures.says in
    reworded (ap outcome_text (sym (ap outcome c.in-Ok.is) ∙ r)) c.accepted_line.ensures

pub returns-in-Err : goal.returns-in-Err
unfolding outcome_text
returns-in-Err c =
    let r = c.read.ensures.says in
    reworded (ap (λ (n : ℕ). refusal_line n 0) c.refusal_number.ensures ∙ ap outcome_text (sym (ap outcome c.in-Err.is) ∙ r)) c.refusal_line.ensures.wrote
