-- `class_report::lines::put_leak` meets its contract. Assumes nothing.
use Rattle.text.proofs.Writing.{then}
use Rattle.class_report.specs.Report.{outcome_text}
use Rattle.class_report.proofs.lines.put_leak.Goals as goal

pub returns : goal.returns
unfolding outcome_text
returns c =
    then c.set_field-next.ensures.wrote c.put.ensures
