-- What a caller reads from the number of an answer.
use Prim.Native.Nat.{ℕ, ◌+◌, ◌-◌, ◌/◌, ◌%◌, ◌^◌, ◌<◌, ◌≤◌}
use mathlib.Core.Path.{◌≡◌}
use mathlib.Core.Bool.{Bool, true, false, not}
use native.Mathlib.Omega.{arith}
use lib.Dec.{ltb}
use borrow.Author.Tests.{lt-ltb, le-ltb}
use Rattle.calculus.specs.Answer.{Verdict, refused, verdict}
use Rattle.interface.specs.Numbers.{over_part, answer_number}

module _ (number place : ℕ) (h : place < 65536) where
  pub refusal-number : (answer_number (refused number place) - 2 ^ 32) / 65536 ≡ number
  unfolding answer_number
  refusal-number = omega arith

  pub refusal-place : answer_number (refused number place) % 65536 ≡ place
  unfolding answer_number
  refusal-place = omega arith

pub refusal-large : (number place : ℕ) → 2 ^ 32 ≤ answer_number (refused number place)
unfolding answer_number
refusal-large number place = omega arith

parts : (leak : ℕ) (over : Bool) → leak < 2 ^ 24
    → ((leak + over_part over) % 2 ^ 24 ≡ leak) × (leak + over_part over < 2 ^ 25) × (ltb (leak + over_part over) (2 ^ 24) ≡ not over)
parts leak true h = (omega arith, omega arith, le-ltb (leak + 2 ^ 24) (2 ^ 24) (omega arith))
parts leak false h = (omega arith, omega arith, lt-ltb (leak + 0) (2 ^ 24) (omega arith))

module _ (v : Verdict) (h : v.leak < 2 ^ 24) where
  pub verdict-leak : answer_number (verdict v) % 2 ^ 24 ≡ v.leak
  unfolding answer_number
  verdict-leak = (parts v.leak v.over h).0

  pub verdict-within : ltb (answer_number (verdict v)) (2 ^ 24) ≡ not v.over
  unfolding answer_number
  verdict-within = (parts v.leak v.over h).2
