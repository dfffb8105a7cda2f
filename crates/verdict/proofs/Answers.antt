-- What a verdict says is the answer to its call, and what the call leaves.
use Prim.Native.Nat.{ℕ}
use Rattle.std.specs.Prelude.{Result}
use mathlib.Core.Path.{◌≡◌, refl, sym, ◌∙◌}
use mathlib.Core.List.{List}
use lib.ListN.{length}
use Rattle.table.specs.Code.{code}
use Rattle.calculus.specs.Estimate.{estimate, leak, facts}
use Rattle.calculus.specs.Answer.{refused, verdict, bound_used, judge, answer, estimate_after, work_after}
use Rattle.calculus.specs.Correct.{Correct, Guaranteed}
use Rattle.calculus.proofs.Covers.{answer-guaranteed}
use Rattle.calculus.proofs.Correct.{call-correct}
use Rattle.comparison.specs.declared.Findings.{Findings}
use Rattle.calls.specs.declared.Fault.{Fault}
use Rattle.calls.specs.Calls.{Fits}
use Rattle.calls.proofs.Answers.{after-refused, after-solved}
use Rattle.comparison.specs.declared.Verdict.{Verdict as Declared-as-Verdict}
use Rattle.comparison.specs.Values.{answer_of, compare}
use Rattle.solver.specs.Analysis.{FoundIn}
use Rattle.verdict.specs.Values.{Judged}

-- ---- a leak compared with a bound

pub compare-judge : (ws : List ℕ) (ρ bound : ℕ) (us : List ℕ)
    → compare (leak (code ws) ρ us) (bound_used bound) (facts us) ≡ verdict (judge (code ws) ρ bound us)
unfolding compare judge
compare-judge ws ρ bound us = refl

-- ---- the whole of a call

module _ (ws : List ℕ) (ρ bound : ℕ) (est work : List ℕ) (r : Result Declared-as-Verdict Fault) where
  -- it passes its checks, s was found, and it is compared with b
  pub judged : (est' work' : List ℕ) (s : Findings) (b : ℕ) → Fits ws ρ bound (length est) (length work)
      → FoundIn ws ρ est work est' work' s → answer_of r ≡ compare s.leak.bits b s.facts → b ≡ bound_used bound
      → Judged ws ρ bound est work r est' work'
  judged est' work' s b f d a e =
      let after = after-solved ws ρ bound est work (judge (code ws) ρ bound (estimate (code ws) ρ)) f.judged in
      let same : compare s.leak.bits b s.facts ≡ compare (leak (code ws) ρ (estimate (code ws) ρ)) (bound_used bound) (facts (estimate (code ws) ρ)) =
      cc (d.leaks, d.counted) in
      record {
        answers = a ∙ same ∙ compare-judge ws ρ bound (estimate (code ws) ρ) ∙ sym f.judged;
        estimates = d.estimates ∙ after.0;
        works = d.works ∙ after.1;
      }

  -- it is refused
  pub rejected : (n at : ℕ) → answer ws ρ bound (length est) (length work) ≡ refused n at → answer_of r ≡ refused n at
      → Judged ws ρ bound est work r est work
  rejected n at e a =
      let after = after-refused ws ρ bound est work n at e in
      record { answers = a ∙ sym e; estimates = after.0; works = after.1 }

-- demands 2 and 3 of what a call answers and leaves
pub demands : (ws : List ℕ) (ρ bound : ℕ) (est work : List ℕ) (r : Result Declared-as-Verdict Fault) (est' work' : List ℕ)
    → Judged ws ρ bound est work r est' work' → Correct ws ρ bound est' (answer_of r) × Guaranteed ws ρ (answer_of r)
demands ws ρ bound est work r est' work' j = (
  call-correct ws ρ bound est work est' (answer_of r) j.answers j.estimates,
  answer-guaranteed ws ρ bound (length est) (length work) (answer_of r) j.answers,
)

-- what a call promises, from what it answers and leaves
abbrev pub Promised : List ℕ → ℕ → ℕ → List ℕ → List ℕ → Result Declared-as-Verdict Fault → List ℕ → List ℕ → Type 0
Promised ws ρ bound est work r est' work' =
    (answer_of r ≡ answer ws ρ bound (length est) (length work))
    × ((est' ≡ estimate_after ws ρ bound est work)
    × ((work' ≡ work_after ws ρ bound est work) × (Correct ws ρ bound est' (answer_of r) × Guaranteed ws ρ (answer_of r))))

pub promised : (ws : List ℕ) (ρ bound : ℕ) (est work : List ℕ) (r : Result Declared-as-Verdict Fault) (est' work' : List ℕ)
    → Judged ws ρ bound est work r est' work' → Promised ws ρ bound est work r est' work'
promised ws ρ bound est work r est' work' j = (j.answers, (j.estimates, (j.works, demands ws ρ bound est work r est' work' j)))
