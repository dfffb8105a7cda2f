-- The C interface (document 01, "Parts and program"): its answer to bytes, and what it leaves in the two slices of bytes.
use Rattle.std.specs.Prelude.{ℕ, zero, suc, ◌*◌, ◌/◌, ◌%◌, ◌^◌, ◌<◌, ◌≡◌, List, ◌++◌, leb, length, take, drop, replicate}
use Rattle.permset.specs.Sets.{width}
use Rattle.little_endian.specs.LittleEndian.{words_of, bytes_of}
use Rattle.table.specs.Scan.{first_of}
use Rattle.table.specs.Code.{code}
use Rattle.calculus.specs.Layout.{estimate_words}
use Rattle.calculus.specs.Estimate.{estimate}
use Rattle.calculus.specs.Answer.{Answer, refused, verdict, bound_used, answer, work_words}
use Rattle.calculus.specs.Guarantee.{Covers}
use Rattle.calculus.specs.Correct.{Least, Compared}
use Rattle.interface.specs.Numbers.{answer_number, system_tests}

-- the answer to the bytes of a system, ρ, a bound, and slices of `est` and `work` bytes
unfoldable pub bytes_answer : List ℕ → ℕ → ℕ → ℕ → ℕ → Answer
unfolding system_tests
bytes_answer system ρ bound est work =
    elim (first_of (system_tests (length system))) [
      | zero ↦ answer (words_of system) ρ bound (est / 4) (work / 4)
      | suc n ↦ refused (suc n) 0
    ]

-- the words of the estimate slice after the call, from those before it, where the system has the words ws
unfoldable pub estimate_left : List ℕ → ℕ → Answer → List ℕ → List ℕ
estimate_left ws ρ (refused number place) es = es
estimate_left ws ρ (verdict v) es = estimate (code ws) ρ ++ drop (estimate_words (code ws)) es

-- the bytes of the estimate slice after the call, from those before it, where the system has the words ws
unfoldable pub estimate_bytes : List ℕ → ℕ → Answer → List ℕ → List ℕ
estimate_bytes ws ρ (refused number place) bs = bs
estimate_bytes ws ρ (verdict v) bs = bytes_of (estimate (code ws) ρ) ++ drop (4 * estimate_words (code ws)) bs

-- the words of the work slice
unfoldable pub work_left : List ℕ → Answer → List ℕ → List ℕ
work_left ws (refused number place) us = us
work_left ws (verdict v) us = replicate (work_words (length ws)) 0 ++ drop (work_words (length ws)) us

-- its bytes
unfoldable pub work_bytes : List ℕ → Answer → List ℕ → List ℕ
work_bytes ws (refused number place) bs = bs
work_bytes ws (verdict v) bs = bytes_of (replicate (work_words (length ws)) 0) ++ drop (4 * work_words (length ws)) bs

-- a call answered a, where the system has the words ws: the number, and the bytes of both slices
pub record Answered (ws : List ℕ) (ρ : ℕ) (a : Answer) (est work : List ℕ) (r : ℕ) (est' work' : List ℕ) : Type 0 where
  pub number : r ≡ answer_number a
  pub estimates : est' ≡ estimate_bytes ws ρ a est
  pub works : work' ≡ work_bytes ws a work

-- Demand 2 of the number r that a call answers, where the system has the words ws and est are the bytes of the estimate slice after the call: of a
-- refusal, nothing; the low digits of any other are the leak of the least estimate, which stands in the slice, and r is 2^24 or more if it is over.
unfoldable pub CorrectNumber : List ℕ → ℕ → ℕ → (est : List ℕ) → (r : ℕ) → Type 0
CorrectNumber ws ρ bound est r =
    r < 2 ^ 32
    → Least (code ws) ρ (take (estimate_words (code ws)) (words_of est)) (r % 2 ^ width)
    × ((first : ℕ) × Compared (r % 2 ^ width) (bound_used bound) (leb (2 ^ width) r) first)

-- demand 3: the low digits of a number that is no refusal cover every run
unfoldable pub GuaranteedNumber : List ℕ → ℕ → (r : ℕ) → Type 0
GuaranteedNumber ws ρ r = r < 2 ^ 32 → Covers (code ws) ρ (r % 2 ^ width)
