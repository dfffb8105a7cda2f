-- Document 01's number and place for each refusal of a call.
use Rattle.std.specs.Prelude.{ℕ}
use Rattle.table.specs.Answer.{number, place}
use Rattle.calls.specs.declared.Fault.{Fault}
use Rattle.calls.specs.declared.Fault.TheVariants as faults

unfoldable pub fault_number : Fault → ℕ
unfolding number
fault_number (faults.Table r) = number r
fault_number faults.Rho = 20
fault_number faults.Bound = 20
fault_number faults.ShortEstimate = 21
fault_number faults.ShortWork = 22

unfoldable pub fault_place : Fault → ℕ
unfolding place
fault_place (faults.Table r) = place r
fault_place faults.Rho = 0
fault_place faults.Bound = 0
fault_place faults.ShortEstimate = 0
fault_place faults.ShortWork = 0
