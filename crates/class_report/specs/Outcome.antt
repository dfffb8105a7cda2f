-- What an analysis says of a system: its leak, or why it is refused.
use Rattle.std.specs.Prelude.{Result}
use Rattle.permset.specs.declared.PermSet.{PermSet}
use Rattle.class_report.specs.declared.Refusal.{Refusal}

abbrev pub Outcome : Type 0
Outcome = Result PermSet Refusal
