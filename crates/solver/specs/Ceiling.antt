-- An analysis under a ceiling n on facts (document 02, wish 7): it is refused with 23, at n, exactly where the least estimate has more than n facts.
use Rattle.std.specs.Prelude.{ℕ, ◌<◌, ◌≤◌, ◌≡◌, Result, Ok, Err, true, false, List, ◌++◌, ltb, length, take, drop, replicate}
use Rattle.table.specs.Code.{Code, code}
use Rattle.calculus.specs.Layout.{estimate_words}
use Rattle.calculus.specs.Estimate.{estimate, leak, facts}
use Rattle.calculus.specs.Answer.{Answer, verdict, standing_bound, work_words, answer}
use Rattle.calculus.specs.Answer as answers
use Rattle.calls.specs.declared.LimitFault.{LimitFault}
use Rattle.calls.specs.declared.LimitFault.TheVariants.{Call, Facts}
use Rattle.calls.specs.Faults.{fault_number, fault_place}
use Rattle.comparison.specs.declared.Findings.{Findings}
use Rattle.solver.specs.Analysis.{Sound}
use Rattle.solver.specs.Analysis as analysis

-- ---- the answer and the slices after the call

-- an answer under the ceiling n
unfoldable pub under : ℕ → Answer → Answer
under n (answers.refused k at) = answers.refused k at
under n (verdict v) = elim (ltb n v.facts) [ true ↦ answers.refused 23 n | false ↦ verdict v ]

unfoldable pub answer_within : List ℕ → ℕ → (n est work : ℕ) → Answer
answer_within ws ρ n est work = under n (answer ws ρ standing_bound est work)

-- the words that a finished analysis leaves in the place of the estimate: zeros where it is over the ceiling
unfoldable pub words_within : Code → ℕ → ℕ → List ℕ
words_within c ρ n = elim (ltb n (facts (estimate c ρ))) [ true ↦ replicate (estimate_words c) 0 | false ↦ estimate c ρ ]

unfoldable pub estimate_within : List ℕ → ℕ → ℕ → (est work : List ℕ) → List ℕ
unfolding words_within
estimate_within ws ρ n est work =
    elim (answer ws ρ standing_bound (length est) (length work)) [
      | answers.refused k at ↦ est
      | verdict v ↦ words_within (code ws) ρ n ++ drop (estimate_words (code ws)) est
    ]

-- ---- what a call says

-- a refusal's number and place, or the leak and the facts
pub data Outcome : Type 0 where
  refused : (number place : ℕ) → Outcome
  solved : (leak facts : ℕ) → Outcome

unfoldable pub outcome : Answer → Outcome
outcome (answers.refused k at) = refused k at
outcome (verdict v) = solved v.leak v.facts

unfoldable pub outcome_of : Result Findings LimitFault → Outcome
unfolding fault_number fault_place
outcome_of (Err (Call f)) = refused (fault_number f) (fault_place f)
outcome_of (Err (Facts n)) = refused 23 n
outcome_of (Ok s) = solved s.leak.bits s.facts

-- demands 2 and 3, and that the count is the number of set bits
unfoldable pub SoundWithin : List ℕ → ℕ → (est : List ℕ) → Outcome → Type 0
SoundWithin ws ρ est (refused number place) = Unit {0}
SoundWithin ws ρ est (solved s n) = Sound ws ρ est (analysis.solved s) × (n ≡ facts (take (estimate_words (code ws)) est))

-- ---- what the parts of a call promise

-- zeros where there are more facts than the ceiling
unfoldable pub cleared_over : (facts ceiling : ℕ) → List ℕ → List ℕ
cleared_over n m ws = elim (ltb m n) [ true ↦ replicate (length ws) 0 | false ↦ ws ]

-- r facts were counted on the way to the least estimate, which stands in est unless r is over the ceiling n
pub record Counted (c : Code) (ρ n : ℕ) (est : List ℕ) (r : ℕ) : Type 0 where
  pub words : est ≡ words_within c ρ n
  pub within : r ≤ n → r ≡ facts (estimate c ρ)
  pub over : n < r → n < facts (estimate c ρ)

pub record SolvedIn (ws : List ℕ) (ρ n : ℕ) (est work est' work' : List ℕ) (r : Findings) : Type 0 where
  pub estimates : est' ≡ words_within (code ws) ρ n ++ drop (estimate_words (code ws)) est
  pub works : work' ≡ replicate (work_words (length ws)) 0 ++ drop (work_words (length ws)) work
  pub leaks : r.leak.bits ≡ leak (code ws) ρ (words_within (code ws) ρ n)
  pub within : r.facts ≤ n → r.facts ≡ facts (estimate (code ws) ρ)
  pub over : n < r.facts → n < facts (estimate (code ws) ρ)

-- the leak and the facts of the least estimate, or that it has more facts than the ceiling n
abbrev pub BoundedAs : Code → (ρ n : ℕ) → Result Findings LimitFault → Type 0
BoundedAs c ρ n (Ok s) = (s.facts ≤ n) × (s.facts ≡ facts (estimate c ρ)) × (s.leak.bits ≡ leak c ρ (estimate c ρ))
BoundedAs c ρ n (Err e) = (e ≡ Facts n) × (n < facts (estimate c ρ))

pub record BoundedIn (ws : List ℕ) (ρ n : ℕ) (est work est' work' : List ℕ) (r : Result Findings LimitFault) : Type 0 where
  pub estimates : est' ≡ words_within (code ws) ρ n ++ drop (estimate_words (code ws)) est
  pub works : work' ≡ replicate (work_words (length ws)) 0 ++ drop (work_words (length ws)) work
  pub says : BoundedAs (code ws) ρ n r
