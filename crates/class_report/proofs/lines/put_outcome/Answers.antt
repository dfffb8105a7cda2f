-- `class_report::lines::put_outcome` meets its contract. Assumes nothing.
use mathlib.Core.Path.{sym, ap}
use Rattle.text.proofs.Writing.{reworded}
use Rattle.class_report.specs.Report.{outcome_text}
use Rattle.class_report.proofs.lines.put_outcome.Goals as goal

pub returns-in-Ok : goal.returns-in-Ok
returns-in-Ok c = reworded (sym (ap outcome_text c.in-Ok.is)) c.put_leak.ensures

pub returns-in-Err : goal.returns-in-Err
unfolding outcome_text
returns-in-Err c = reworded (sym (ap outcome_text c.in-Err.is)) c.refusal_line.ensures.wrote
