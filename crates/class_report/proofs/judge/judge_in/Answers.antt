-- `class_report::judge::judge_in` meets its contract. Assumes nothing.
use mathlib.Core.Path.{ap, ◌∙◌}
use Rattle.class_report.specs.Report.{outcome_of}
use Rattle.class_report.proofs.Judged.{outcome-exact}
use Rattle.class_report.proofs.judge.judge_in.Goals as goal

pub returns : goal.returns
returns c =
    let v = c.verdict.ensures in
    c.outcome_of.ensures ∙ ap outcome_of v.answer ∙ outcome-exact c.args.words.now c.args.rho _ _ c.requires.0 c.requires.1 c.requires.2
