-- What an analysis says beside the answer for all inputs, and what it leaves in the slices.
use Rattle.std.specs.Prelude.{ℕ, ◌≡◌, Result, Ok, Err, List, ◌++◌, length, take, drop, replicate}
use Rattle.table.specs.Code.{code}
use Rattle.calculus.specs.Layout.{estimate_words}
use Rattle.calculus.specs.Estimate.{estimate, leak, facts}
use Rattle.calculus.specs.Answer.{Answer, verdict, work_words}
use Rattle.calculus.specs.Answer as answers
use Rattle.calculus.specs.Guarantee.{Covers}
use Rattle.calculus.specs.Correct.{Least}
use Rattle.permset.specs.declared.PermSet.{PermSet}
use Rattle.calls.specs.declared.Fault.{Fault}
use Rattle.calls.specs.Faults.{fault_number, fault_place}
use Rattle.comparison.specs.declared.Findings.{Findings}

-- an answer without what depends on a bound or is read from the estimate later: a refusal's number and place, or the leak
pub data Summary : Type 0 where
  refused : (number place : ℕ) → Summary
  solved : (leak : ℕ) → Summary

unfoldable pub summary : Answer → Summary
summary (answers.refused n at) = refused n at
summary (verdict v) = solved v.leak

unfoldable pub said : Result PermSet Fault → Summary
unfolding fault_number fault_place
said (Err f) = refused (fault_number f) (fault_place f)
said (Ok s) = solved s.bits

-- Demands 2 and 3 of an analysis of the table ws, where est is the estimate slice after the call: its first words are the least estimate, the leak
-- is that of this estimate, and it covers every run.
unfoldable pub Sound : List ℕ → ℕ → (est : List ℕ) → Summary → Type 0
Sound ws ρ est (refused number place) = Unit {0}
Sound ws ρ est (solved s) = Least (code ws) ρ (take (estimate_words (code ws)) est) s × Covers (code ws) ρ s

-- the least estimate in the first words of one slice, zeros in those of the other, the leak and the facts
pub record FoundIn (ws : List ℕ) (ρ : ℕ) (est work est' work' : List ℕ) (r : Findings) : Type 0 where
  pub estimates : est' ≡ estimate (code ws) ρ ++ drop (estimate_words (code ws)) est
  pub works : work' ≡ replicate (work_words (length ws)) 0 ++ drop (work_words (length ws)) work
  pub leaks : r.leak.bits ≡ leak (code ws) ρ (estimate (code ws) ρ)
  pub counted : r.facts ≡ facts (estimate (code ws) ρ)
