-- The place of a refusal, which has 16 digits in the number of an answer.
use Rattle.std.specs.Prelude.{◌<◌, Result, Ok, Err}
use Rattle.comparison.specs.declared.Verdict.{Verdict}
use Rattle.calls.specs.declared.Fault.{Fault}
use Rattle.calls.specs.Faults.{fault_place}

abbrev pub PlaceFits : Result Verdict Fault → Type 0
PlaceFits (Err f) = fault_place f < 65536
PlaceFits (Ok v) = Unit {0}
