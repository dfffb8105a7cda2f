-- `class_report::lines::put_totals` meets its contract. Assumes nothing.
use Rattle.text.proofs.Writing.{then}
use Rattle.class_report.specs.Report.{totals}
use Rattle.class_report.proofs.lines.put_totals.Goals as goal

pub returns : goal.returns
unfolding totals
returns c = then c.count_line-at.ensures.wrote c.permission_lines.ensures
