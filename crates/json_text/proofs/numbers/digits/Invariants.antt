-- `json_text::numbers::digits` meets its contract. The loop's invariant: behind the digits from here is behind those from the start.
-- Assumes nothing.
use mathlib.Core.Path.{◌≡◌}
use Prim.Native.Nat.{◌-◌}
use lib.ListN.{length, drop}
use Rattle.json_text.specs.Numbers.{digits}
use Rattle.json_text.proofs.numbers.digits.Given as goal

abbrev pub invariant-loop-p : goal.invariant-loop-p
invariant-loop-p l = digits (drop l.at l.text) ≡ digits (drop l.p l.text)

abbrev pub decreases-loop-p : goal.decreases-loop-p
decreases-loop-p l = length l.text - l.p
