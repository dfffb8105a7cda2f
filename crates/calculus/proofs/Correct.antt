-- Demand 2 by the words of a table: every answer is correct by the flow rules.
use Prim.Native.Nat.{ℕ}
use mathlib.Core.Path.{◌≡◌, refl, sym, ◌∙◌, subst, subst₂, ap}
use mathlib.Core.Bool.{Bool, true, false, not}
use mathlib.Core.List.{List}
use lib.Dec.{T}
use lib.ListN.{length, take, drop}
use lib.Seq.{take_at}
use Rattle.permset.specs.Sets.{within}
use Rattle.permset.proofs.Laws.{within-member}
use Rattle.table.specs.Scan.{accepted, reading}
use Rattle.table.specs.Code.{Code, Linked, code}
use Rattle.table.proofs.Linked.{linked}
use Rattle.calculus.specs.Layout.{estimate_words}
use Rattle.calculus.specs.Estimate.{estimate, leak, facts}
use Rattle.calculus.specs.Answer.{Verdict, Answer, refused, verdict, bound_used, judge, answer, estimate_after}
use Rattle.calculus.specs.Correct.{Least, Compared, Correct}
use Rattle.calculus.proofs.Least.{estimate-well, estimate-obeys, estimate-least}
use Rattle.calculus.proofs.Leak.{leak-has, leak-only, over_first, first-lowest}
use Rattle.calculus.proofs.Covers.{answer-judged}

-- the least estimate and its leak
pub estimate-is-least : (c : Code) → Linked c → (ρ : ℕ) → Least c ρ (estimate c ρ) (leak c ρ (estimate c ρ))
estimate-is-least c k ρ =
    let w = estimate-well c k ρ in
    record {
      well = w;
      obeys = estimate-obeys c k ρ;
      least = estimate-least c k ρ;
      leaks = leak-has c ρ (estimate c ρ) w;
      only = leak-only c ρ (estimate c ρ) w k;
    }

-- a leak and the bound used, by what the verdict says of them
judge-compared : (c : Code) (ρ bound : ℕ) (us : List ℕ)
    → Compared (leak c ρ us) (bound_used bound) (judge c ρ bound us).over (judge c ρ bound us).first
unfolding judge Compared
judge-compared c ρ bound us = go (within (leak c ρ us) (bound_used bound)) refl
  where
    go : (b : Bool) → within (leak c ρ us) (bound_used bound) ≡ b
        → Compared (leak c ρ us) (bound_used bound) (not b) (judge c ρ bound us).first
    go true e = λ x. within-member (leak c ρ us) (bound_used bound) x (subst T (sym e) tt)
    go false e = (over_first c ρ bound us (subst (λ (b : Bool). T (not b)) (sym e) tt), first-lowest c ρ bound us)

-- what stands in the first words of the estimate slice after a call that is not refused
after_first : (ws : List ℕ) (ρ bound : ℕ) (est work : List ℕ) (v : Verdict) → reading ws ≡ accepted
    → answer ws ρ bound (length est) (length work) ≡ verdict v
    → take (estimate_words (code ws)) (estimate_after ws ρ bound est work) ≡ estimate (code ws) ρ
unfolding estimate_after
after_first ws ρ bound est work v r e =
    rw (e, estimate_after)
    (take_at (estimate (code ws) ρ) (drop (estimate_words (code ws)) est) (estimate_words (code ws)) (estimate-well (code ws) (linked ws r) ρ).long)

-- an answer is correct of any slice whose first words are the least estimate
pub answer-correct : (ws : List ℕ) (ρ bound est work : ℕ) (us : List ℕ) (a : Answer) → a ≡ answer ws ρ bound est work
    → ((v : Verdict) → answer ws ρ bound est work ≡ verdict v → take (estimate_words (code ws)) us ≡ estimate (code ws) ρ)
    → Correct ws ρ bound us a
unfolding Correct judge
answer-correct ws ρ bound est work us (refused number place) e f = tt
answer-correct ws ρ bound est work us (verdict v) e f =
    let j = answer-judged ws ρ bound est work v (sym e) in
    subst₂ (λ (xs : List ℕ) (u : Verdict). Least (code ws) ρ xs u.leak × Compared u.leak (bound_used bound) u.over u.first × (u.facts ≡ facts xs))
    (sym (f v (sym e))) j.1
    (estimate-is-least (code ws) (linked ws j.0) ρ, judge-compared (code ws) ρ bound (estimate (code ws) ρ), refl)

-- of the slice that a call leaves
pub call-correct : (ws : List ℕ) (ρ bound : ℕ) (est work us : List ℕ) (a : Answer) → a ≡ answer ws ρ bound (length est) (length work)
    → us ≡ estimate_after ws ρ bound est work → Correct ws ρ bound us a
call-correct ws ρ bound est work us a e u =
    answer-correct ws ρ bound (length est) (length work) us a e
    (λ v q. ap (take (estimate_words (code ws))) u ∙ after_first ws ρ bound est work v (answer-judged ws ρ bound (length est) (length work) v q).0 q)
