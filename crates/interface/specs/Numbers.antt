-- The answer of the C interface as one number, and its tests before the reading of a system (document 01, "Parts and program").
use Rattle.std.specs.Prelude.{ℕ, ◌+◌, ◌*◌, ◌%◌, ◌^◌, Bool, true, false, not, List, [], ◌∷◌, eqb, ltb}
use Rattle.calculus.specs.Answer.{Answer, refused, verdict}

abbrev pub over_part : Bool → ℕ
over_part true = 2 ^ 24
over_part false = 0

-- the leak, plus 2^24 if over; refused, 2^32 + number × 65,536 + place
unfoldable pub answer_number : Answer → ℕ
answer_number (refused number place) = 2 ^ 32 + number * 65536 + place
answer_number (verdict v) = v.leak + over_part v.over

-- what comes before the reading of a system of this many bytes: too many, no whole words
unfoldable pub system_tests : ℕ → List (Bool × ℕ)
system_tests size = (ltb 1024 size, 31) ∷ (not (eqb (size % 4) 0), 30) ∷ []
