-- The number and the place of each refusal, and what the answers of the code say.
use Rattle.std.specs.Prelude.{ℕ, Result, Ok, Err}
use Rattle.table.specs.Scan.{Outcome, accepted, refused}
use Rattle.table.specs.Answer.{number, place}
use Rattle.widths.specs.declared.Fault.{Fault}
use Rattle.widths.specs.declared.Fault.TheVariants as faults
use Rattle.widths.specs.Converters.{Answer, written, refusal}

unfoldable pub fault_number : Fault → ℕ
fault_number (faults.Table r) = number r
fault_number faults.TooManyHandlers = 55
fault_number (faults.WideName p) = 56
fault_number faults.ShortOutput = 57

unfoldable pub fault_place : Fault → ℕ
fault_place (faults.Table r) = place r
fault_place faults.TooManyHandlers = 0
fault_place (faults.WideName p) = p
fault_place faults.ShortOutput = 0

unfoldable pub converted_as : Result ℕ Fault → Answer
converted_as (Ok n) = written n
converted_as (Err f) = refusal (fault_number f) (fault_place f)

unfoldable pub checked_as : Result (Unit {0}) Fault → Outcome
checked_as (Ok u) = accepted
checked_as (Err f) = refused (fault_number f) (fault_place f)
