-- `class_report::steps::fault_number` meets its contract. Assumes nothing.
use mathlib.Core.Path.{sym, ap}
use Rattle.class_report.specs.Stream.{number}
use Rattle.class_report.proofs.steps.fault_number.Goals as goal

pub returns-in-TooMany : goal.returns-in-TooMany
unfolding number
returns-in-TooMany c = sym (ap number c.in-TooMany.is)

pub returns-in-TooLong : goal.returns-in-TooLong
unfolding number
returns-in-TooLong c = sym (ap number c.in-TooLong.is)

pub returns-in-CutShort : goal.returns-in-CutShort
unfolding number
returns-in-CutShort c = sym (ap number c.in-CutShort.is)
