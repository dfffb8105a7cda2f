-- `class_report::counts::tallied` meets its contract. Assumes nothing.
use mathlib.Core.Path.{sym, ap, ◌∙◌}
use Rattle.class_report.specs.Tally.{tallied}
use Rattle.class_report.proofs.Counting.{tallied-leak, tallied-refused}
use Rattle.class_report.proofs.counts.tallied.Goals as goal

pub returns-in-Ok : goal.returns-in-Ok
returns-in-Ok c =
    let t = c.args.tally in
    tallied-leak t _ _ _ c.raised.ensures c.counted-leaks.ensures ∙ sym (ap (tallied t) c.in-Ok.is)

pub returns-in-Err : goal.returns-in-Err
returns-in-Err c =
    let t = c.args.tally in
    tallied-refused t _ _ c.raised-in-Err.ensures ∙ sym (ap (tallied t) c.in-Err.is)
