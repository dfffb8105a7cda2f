-- Demand 3 by the words of a table: the leak of its least estimate, and so every leak that a verdict reports, covers every run.
use Prim.Native.Nat.{ℕ, zero, suc}
use mathlib.Core.Path.{◌≡◌, refl, sym, ◌∙◌, subst, ap}
use mathlib.Core.List.{List}
use native.Mathlib.Omega.{arith}
use Rattle.table.specs.Scan.{Outcome, accepted, refused as unreadable, reading, first_of}
use Rattle.table.specs.Code.{code}
use Rattle.table.proofs.Linked.{linked}
use Rattle.calculus.specs.Layout.{sets}
use Rattle.calculus.specs.Estimate.{whole, estimate, leak}
use Rattle.calculus.specs.Answer.{Verdict, Answer, refused, verdict, judge, caller_tests, analysis, answer}
use Rattle.calculus.specs.Guarantee.{Covers}
use Rattle.calculus.specs.Correct.{Guaranteed}
use Rattle.calculus.proofs.Guarantee.{covers}
use Rattle.calculus.proofs.Firing.{whole_is}
use Rattle.calculus.proofs.Least.{estimate-well, estimate-obeys}
use Rattle.calculus.proofs.Leak.{leak-has}

-- The leak of an accepted table covers every run, by its words alone.
pub leak-covers : (ws : List ℕ) → reading ws ≡ accepted → (ρ : ℕ) → Covers (code ws) ρ (leak (code ws) ρ (estimate (code ws) ρ))
leak-covers ws a ρ =
    let c = code ws in
    let k = linked ws a in
    covers c k ρ (sets c (estimate c ρ)) (estimate-obeys c k ρ) (leak c ρ (estimate c ρ))
    (leak-has c ρ (estimate c ρ) (estimate-well c k ρ))

-- A verdict is judged on the least estimate of an accepted table.
pub answer-judged : (ws : List ℕ) (ρ bound est work : ℕ) (v : Verdict) → answer ws ρ bound est work ≡ verdict v
    → (reading ws ≡ accepted) × (judge (code ws) ρ bound (estimate (code ws) ρ) ≡ v)
unfolding answer analysis
answer-judged ws ρ bound est work v q = go (reading ws) refl q
  where
    Judged : Type 0
    Judged = (reading ws ≡ accepted) × (judge (code ws) ρ bound (estimate (code ws) ρ) ≡ v)

    of-whole : verdict (judge (code ws) ρ bound (estimate (code ws) ρ)) ≡ verdict v → judge (code ws) ρ bound (estimate (code ws) ρ) ≡ v
    of-whole e = cc

    tested : (n : ℕ) → reading ws ≡ accepted
        → (elim n as (λ m. Answer) [
          | zero ↦ whole (estimate (code ws) ρ) (λ us. verdict (judge (code ws) ρ bound us))
          | suc m ↦ refused (suc m) 0
        ]) ≡ verdict v
        → Judged
    tested zero a e = (a, of-whole (sym (whole_is (estimate (code ws) ρ) (λ us. verdict (judge (code ws) ρ bound us))) ∙ e))
    tested (suc n) a e = let z : ◌≡◌ {A = ℕ} 0 1 = cc in absurd (omega arith)

    go : (o : Outcome) → reading ws ≡ o
        → (elim o as (λ u. Answer) [ accepted ↦ analysis (code ws) ρ bound est work | unreadable n at ↦ refused n at ]) ≡ verdict v
        → Judged
    go accepted a e = tested (first_of (caller_tests (code ws) ρ bound est work)) a e
    go (unreadable n at) a e = let z : ◌≡◌ {A = ℕ} 0 1 = cc in absurd (omega arith)

-- Every leak that a verdict reports, whatever the bound and the slices, covers every run.
pub verdict-covers : (ws : List ℕ) (ρ bound est work : ℕ) (v : Verdict) → answer ws ρ bound est work ≡ verdict v
    → Covers (code ws) ρ v.leak
unfolding judge
verdict-covers ws ρ bound est work v q =
    let j = answer-judged ws ρ bound est work v q in
    subst (Covers (code ws) ρ) (ap (λ (u : Verdict). u.leak) j.1) (leak-covers ws j.0 ρ)

pub answer-guaranteed : (ws : List ℕ) (ρ bound est work : ℕ) (a : Answer) → a ≡ answer ws ρ bound est work → Guaranteed ws ρ a
unfolding Guaranteed
answer-guaranteed ws ρ bound est work (refused number place) e = tt
answer-guaranteed ws ρ bound est work (verdict v) e = verdict-covers ws ρ bound est work v (sym e)
