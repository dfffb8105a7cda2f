-- What the parts of a call to the verdict promise: its answer, and what it leaves in its slices.
use Rattle.std.specs.Prelude.{ℕ, ◌≡◌, Result, List, length}
use Rattle.calculus.specs.Answer.{answer, estimate_after, work_after}
use Rattle.calls.specs.declared.Fault.{Fault}
use Rattle.comparison.specs.declared.Verdict.{Verdict}
use Rattle.comparison.specs.Values.{answer_of}

-- what a call answers and leaves in its slices
pub record Judged (ws : List ℕ) (ρ bound : ℕ) (est work : List ℕ) (r : Result Verdict Fault) (est' work' : List ℕ) : Type 0 where
  pub answers : answer_of r ≡ answer ws ρ bound (length est) (length work)
  pub estimates : est' ≡ estimate_after ws ρ bound est work
  pub works : work' ≡ work_after ws ρ bound est work
