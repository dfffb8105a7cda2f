-- The number and the place of each refusal, and what the answers of `find` and `join` say.
use Rattle.std.specs.Prelude.{ℕ, ◌+◌, Result, Ok, Err}
use Rattle.table.specs.Scan.{Outcome, accepted, refused}
use Rattle.table.specs.Answer.{number, place}
use Rattle.overlay.specs.declared.Fault.{Fault}
use Rattle.overlay.specs.declared.Fault.TheVariants as faults
use Rattle.overlay.specs.declared.Found.{Found}
use Rattle.overlay.specs.declared.Found.TheVariants as finds
use Rattle.overlay.specs.Lookup.{Place, in_base, in_overlay, refusal}
use Rattle.overlay.specs.Join as join

unfoldable pub fault_number : Fault → ℕ
fault_number (faults.Base r) = number r
fault_number (faults.Overlay r) = 100 + number r
fault_number faults.NoBlock = 47
fault_number faults.TooManyHandlers = 48
fault_number faults.TooManyWords = 49
fault_number faults.ShortOutput = 50

unfoldable pub fault_place : Fault → ℕ
fault_place (faults.Base r) = place r
fault_place (faults.Overlay r) = place r
fault_place faults.NoBlock = 0
fault_place faults.TooManyHandlers = 0
fault_place faults.TooManyWords = 0
fault_place faults.ShortOutput = 0

unfoldable pub found_as : Result Found Fault → Place
found_as (Ok (finds.Base a e)) = in_base a e
found_as (Ok (finds.Overlay a e)) = in_overlay a e
found_as (Err f) = refusal (fault_number f) (fault_place f)

unfoldable pub joined_as : Result ℕ Fault → join.Answer
joined_as (Ok n) = join.written n
joined_as (Err f) = join.refusal (fault_number f) (fault_place f)

unfoldable pub checked_as : Result (Unit {0}) Fault → Outcome
checked_as (Ok u) = accepted
checked_as (Err f) = refused (fault_number f) (fault_place f)
