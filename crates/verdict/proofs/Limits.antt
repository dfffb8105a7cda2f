-- What a verdict under a ceiling says is the answer to its call, and what the call leaves.
use Prim.Native.Nat.{ℕ, ◌<◌, ◌≤◌}
use Rattle.std.specs.Prelude.{Result, Ok, Err}
use mathlib.Core.Path.{◌≡◌, refl, sym, ap, ◌∙◌}
use mathlib.Core.Bool.{false}
use mathlib.Core.List.{List, ◌++◌}
use native.Mathlib.Decide.{dec_lt}
use native.Mathlib.Omega.{arith}
use borrow.Author.Tests.{lt-ltb, le-ltb}
use lib.Dec.{ltb}
use lib.ListN.{length, drop}
use Rattle.table.specs.Code.{code}
use Rattle.calculus.specs.Layout.{estimate_words}
use Rattle.calculus.specs.Estimate.{estimate, leak, facts}
use Rattle.calculus.specs.Answer.{Answer, Verdict, refused, verdict, bound_used, judge, answer, estimate_after, work_after}
use Rattle.calculus.specs.Correct.{Correct, Guaranteed}
use Rattle.calculus.proofs.Correct.{call-correct}
use Rattle.calculus.proofs.Covers.{answer-judged, answer-guaranteed}
use Rattle.calls.specs.declared.LimitFault.{LimitFault}
use Rattle.calls.specs.Calls.{Fits}
use Rattle.calls.proofs.Answers.{after-refused, after-solved}
use Rattle.comparison.specs.declared.Findings.{Findings}
use Rattle.comparison.specs.declared.Verdict.{Verdict as Declared-as-Verdict}
use Rattle.comparison.specs.Values.{answer_of, compare}
use Rattle.solver.specs.Ceiling.{under, words_within, BoundedIn}
use Rattle.solver.proofs.Least.{words-whole}
use Rattle.verdict.specs.Limits.{limited_answer, answer_under, estimate_under, Limits}
use Rattle.verdict.proofs.Answers.{compare-judge}

-- ---- an answer under a ceiling

under-refused : (n k at : ℕ) → under n (refused k at) ≡ refused k at
unfolding under
under-refused n k at = refl

under-over : (n : ℕ) (v : Verdict) → n < v.facts → under n (verdict v) ≡ refused 23 n
unfolding under
under-over n v h = rw (under, lt-ltb n v.facts h)

under-within : (n : ℕ) (v : Verdict) → v.facts ≤ n → under n (verdict v) ≡ verdict v
unfolding under
under-within n v h = rw (under, le-ltb n v.facts h)

judge-facts : (ws : List ℕ) (ρ bound : ℕ) → (judge (code ws) ρ bound (estimate (code ws) ρ)).facts ≡ facts (estimate (code ws) ρ)
unfolding judge
judge-facts ws ρ bound = refl

-- ---- the whole of a call

module _ (ws : List ℕ) (ρ bound n : ℕ) (est work : List ℕ) where
  words_left : (v : Verdict) → answer ws ρ bound (length est) (length work) ≡ verdict v
      → words_within (code ws) ρ n ++ drop (estimate_words (code ws)) est ≡ estimate_under ws ρ bound n est work
  unfolding estimate_under
  words_left v e = sym (rw (e, estimate_under))

  words-kept : (k at : ℕ) → answer ws ρ bound (length est) (length work) ≡ refused k at → est ≡ estimate_under ws ρ bound n est work
  unfolding estimate_under
  words-kept k at e = sym (rw (e, estimate_under))

  -- it is refused by its checks
  pub turned-away : (r : Result Declared-as-Verdict LimitFault) (k at : ℕ) → answer ws ρ bound (length est) (length work) ≡ refused k at
      → limited_answer r ≡ refused k at → Limits ws ρ bound n est work r est work
  turned-away r k at e a =
      record {
        answers = a ∙ sym (under-refused n k at) ∙ ap (under n) (sym e);
        estimates = words-kept k at e;
        works = (after-refused ws ρ bound est work k at e).1;
      }

  module _ (est' work' : List ℕ) (f : Fits ws ρ bound (length est) (length work)) where
    abbrev found : Verdict
    found = judge (code ws) ρ bound (estimate (code ws) ρ)

    -- more facts than the ceiling
    pub exceeded : (r : Result Declared-as-Verdict LimitFault) (e : LimitFault) → BoundedIn ws ρ n est work est' work' (Err e) → r ≡ Err e
        → Limits ws ρ bound n est work r est' work'
    unfolding limited_answer
    exceeded r e d q =
        record {
          answers =
              ap limited_answer q ∙ ap (λ (x : LimitFault). limited_answer (Err x)) d.says.0
              ∙ sym (ap (under n) f.judged ∙ under-over n found (omega (arith, d.says.1, judge-facts ws ρ bound)));
          estimates = d.estimates ∙ words_left found f.judged;
          works = d.works ∙ (after-solved ws ρ bound est work found f.judged).1;
        }

    -- no more, and s was compared with b
    pub allowed : (s : Findings) → BoundedIn ws ρ n est work est' work' (Ok s) → (v : Declared-as-Verdict) (b : ℕ)
        → answer_of (Ok v) ≡ compare s.leak.bits b s.facts → b ≡ bound_used bound → Limits ws ρ bound n est work (Ok v) est' work'
    unfolding limited_answer
    allowed s d v b a e =
        let us = estimate (code ws) ρ in
        let k : s.facts ≡ facts us = d.says.1 in
        let l : s.leak.bits ≡ leak (code ws) ρ us = d.says.2 in
        let same : compare s.leak.bits b s.facts ≡ compare (leak (code ws) ρ us) (bound_used bound) (facts us) = cc (k, l, e) in
        record {
          answers =
              a ∙ same ∙ compare-judge ws ρ bound us
              ∙ sym (ap (under n) f.judged ∙ under-within n found (omega (arith, d.says.0, k, judge-facts ws ρ bound)));
          estimates = d.estimates ∙ words_left found f.judged;
          works = d.works ∙ (after-solved ws ρ bound est work found f.judged).1;
        }

  -- a verdict under the ceiling is the verdict, and its estimate is left
  pub under-verdict : (v : Verdict) (us : List ℕ) → verdict v ≡ answer_under ws ρ bound n (length est) (length work) → us ≡ estimate_under ws ρ bound n est work
      → (verdict v ≡ answer ws ρ bound (length est) (length work)) × (us ≡ estimate_after ws ρ bound est work)
  under-verdict v us e u = by (answer ws ρ bound (length est) (length work)) refl
    where
      not-refused : (k at : ℕ) → verdict v ≡ refused k at → ⊥
      not-refused k at q = let z : ◌≡◌ {A = ℕ} 0 1 = cc in omega arith

      Left : Type 0
      Left = (verdict v ≡ answer ws ρ bound (length est) (length work)) × (us ≡ estimate_after ws ρ bound est work)

      within : (w : Verdict) → answer ws ρ bound (length est) (length work) ≡ verdict w → Dec (n < w.facts) → Left
      within w q (yes h) = absurd (not-refused 23 n (e ∙ ap (under n) q ∙ under-over n w h))
      within w q (no h) =
          let same : w.facts ≡ facts (estimate (code ws) ρ) = ap (λ (x : Verdict). x.facts) (sym (answer-judged ws ρ bound (length est) (length work) w q).1) ∙ judge-facts ws ρ bound in
          let few : ltb n (facts (estimate (code ws) ρ)) ≡ false = le-ltb n (facts (estimate (code ws) ρ)) (omega (arith, h, same)) in (
            e ∙ ap (under n) q ∙ under-within n w (omega (arith, h)) ∙ sym q,
            u ∙ sym (words_left w q) ∙ ap (λ (xs : List ℕ). xs ++ drop (estimate_words (code ws)) est) (words-whole (code ws) ρ n few) ∙ (after-solved ws ρ bound est work w q).0,
          )

      by : (a : Answer) → answer ws ρ bound (length est) (length work) ≡ a → Left
      by (refused k at) q = absurd (not-refused k at (e ∙ ap (under n) q ∙ under-refused n k at))
      by (verdict w) q = within w q (dec_lt n w.facts)

  -- an answer under the ceiling is correct and guaranteed, with the slice as the call leaves it
  under-correct : (us : List ℕ) (a : Answer) → a ≡ answer_under ws ρ bound n (length est) (length work) → us ≡ estimate_under ws ρ bound n est work
      → Correct ws ρ bound us a × Guaranteed ws ρ a
  unfolding Correct Guaranteed
  under-correct us (refused k at) e u = (tt, tt)
  under-correct us (verdict v) e u =
      let q = under-verdict v us e u in
      (call-correct ws ρ bound est work us (verdict v) q.0 q.1, answer-guaranteed ws ρ bound (length est) (length work) (verdict v) q.0)

-- demands 2 and 3 of what a call under a ceiling answers and leaves
pub demands-under : (ws : List ℕ) (ρ bound n : ℕ) (est work : List ℕ) (r : Result Declared-as-Verdict LimitFault) (est' work' : List ℕ)
    → Limits ws ρ bound n est work r est' work' → Correct ws ρ bound est' (limited_answer r) × Guaranteed ws ρ (limited_answer r)
demands-under ws ρ bound n est work r est' work' l =
    under-correct ws ρ bound n est work est' (limited_answer r) l.answers l.estimates

-- what a call promises, from what it answers and leaves
abbrev pub PromisedUnder : List ℕ → (ρ bound n : ℕ) → (est work : List ℕ) → Result Declared-as-Verdict LimitFault → (est' work' : List ℕ) → Type 0
PromisedUnder ws ρ bound n est work r est' work' =
    (limited_answer r ≡ answer_under ws ρ bound n (length est) (length work))
    × ((est' ≡ estimate_under ws ρ bound n est work)
    × ((work' ≡ work_after ws ρ bound est work) × (Correct ws ρ bound est' (limited_answer r) × Guaranteed ws ρ (limited_answer r))))

pub promised-under : (ws : List ℕ) (ρ bound n : ℕ) (est work : List ℕ) (r : Result Declared-as-Verdict LimitFault) (est' work' : List ℕ)
    → Limits ws ρ bound n est work r est' work' → PromisedUnder ws ρ bound n est work r est' work'
promised-under ws ρ bound n est work r est' work' l = (l.answers, (l.estimates, (l.works, demands-under ws ρ bound n est work r est' work' l)))
