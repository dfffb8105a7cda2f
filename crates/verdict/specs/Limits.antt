-- The verdict under a ceiling on facts (document 02, wish 7): refused with 23, at the ceiling, exactly where the least estimate has more facts.
use Rattle.std.specs.Prelude.{ℕ, ◌≡◌, Result, Ok, Err, List, ◌++◌, length, drop}
use Rattle.table.specs.Code.{code}
use Rattle.calculus.specs.Layout.{estimate_words}
use Rattle.calculus.specs.Answer.{Answer, refused, verdict, answer, work_after}
use Rattle.calls.specs.declared.LimitFault.{LimitFault}
use Rattle.calls.specs.declared.LimitFault.TheVariants.{Call, Facts}
use Rattle.comparison.specs.declared.Verdict.{Verdict}
use Rattle.comparison.specs.Values.{answer_of}
use Rattle.solver.specs.Ceiling.{under, words_within}

unfoldable pub limited_answer : Result Verdict LimitFault → Answer
unfolding answer_of
limited_answer (Ok v) = answer_of (Ok v)
limited_answer (Err (Call f)) = answer_of (Err f)
limited_answer (Err (Facts n)) = refused 23 n

-- the answer under the ceiling n
abbrev pub answer_under : List ℕ → (ρ bound n est work : ℕ) → Answer
answer_under ws ρ bound n est work = under n (answer ws ρ bound est work)

-- the estimate slice after the call: zeros where the ceiling is passed
unfoldable pub estimate_under : List ℕ → (ρ bound n : ℕ) → (est work : List ℕ) → List ℕ
unfolding words_within
estimate_under ws ρ bound n est work =
    elim (answer ws ρ bound (length est) (length work)) [
      | refused k at ↦ est
      | verdict v ↦ words_within (code ws) ρ n ++ drop (estimate_words (code ws)) est
    ]

-- what a call answers and leaves in its slices
pub record Limits (ws : List ℕ) (ρ bound n : ℕ) (est work : List ℕ) (r : Result Verdict LimitFault) (est' work' : List ℕ) : Type 0 where
  pub answers : limited_answer r ≡ answer_under ws ρ bound n (length est) (length work)
  pub estimates : est' ≡ estimate_under ws ρ bound n est work
  pub works : work' ≡ work_after ws ρ bound est work
