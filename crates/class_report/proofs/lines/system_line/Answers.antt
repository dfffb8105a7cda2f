-- `class_report::lines::system_line` meets its contract. Assumes nothing.
use Rattle.text.proofs.Writing.{then}
use Rattle.class_report.specs.Report.{line}
use Rattle.class_report.proofs.lines.system_line.Goals as goal

pub returns : goal.returns
unfolding line
returns c =
    then (then (then c.number_field-a.ensures.wrote c.hex_field-b.ensures.wrote) c.put-c.ensures) c.put_outcome.ensures
