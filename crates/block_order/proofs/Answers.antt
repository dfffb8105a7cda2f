-- Two accepted tables whose codes rename each other's words, there and back, have the same answer, refused or not.
use Prim.Native.Nat.{ℕ, zero, suc}
use mathlib.Core.Path.{◌≡◌, refl, sym, ap, ap₂, ◌∙◌}
use mathlib.Core.Bool.{Bool, not}
use mathlib.Core.List.{List}
use Rattle.permset.specs.Sets.{within, difference, lowest}
use Rattle.table.specs.Scan.{accepted, refused as unreadable, reading, Outcome, first_of}
use Rattle.table.specs.Code.{Code, code}
use Rattle.calculus.specs.Layout.{row_words, estimate_words}
use Rattle.calculus.specs.Estimate.{whole, estimate}
use Rattle.calculus.specs.Answer.{Verdict, Answer, refused, verdict, bound_used, judge, caller_tests, analysis, answer}
use Rattle.calculus.proofs.Firing.{whole_is}
use Rattle.block_order.proofs.Sets.{Both, same_names, leak-same}
use Rattle.block_order.proofs.Facts.{facts-same}

-- a verdict by leak, bound used and facts
compared : (leak bound facts : ℕ) → Verdict
compared l b f = record { leak = l; bound = b; over = not (within l b); first = lowest (difference l b); facts = f }

words_same : (c d : Code) → c.names ≡ d.names → c.size ≡ d.size → estimate_words d ≡ estimate_words c
unfolding estimate_words row_words
words_same c d n s = rw (n, s) refl

module _ (π σ : ℕ → ℕ) (c d : Code) (b : Both π σ c d) (size : c.size ≡ d.size) (ρ bound : ℕ) where
  judge-same : judge d ρ bound (estimate d ρ) ≡ judge c ρ bound (estimate c ρ)
  unfolding judge compared
  judge-same = ap₂ (λ (l f : ℕ). compared l (bound_used bound) f) (leak-same π σ c d b ρ) (facts-same π σ c d b ρ)

  tests_same : (est work : ℕ) → caller_tests d ρ bound est work ≡ caller_tests c ρ bound est work
  unfolding caller_tests
  tests_same est work = rw (words_same c d (same_names π σ c d b) size, size) refl

  -- where no test refuses
  judged : (c : Code) → whole (estimate c ρ) (λ ws. verdict (judge c ρ bound ws)) ≡ verdict (judge c ρ bound (estimate c ρ))
  judged c = whole_is (estimate c ρ) (λ ws. verdict (judge c ρ bound ws))

  analysis-same : (est work : ℕ) → analysis d ρ bound est work ≡ analysis c ρ bound est work
  unfolding analysis
  analysis-same est work =
      ap₂ (λ (ts : List (Bool × ℕ)) (a : Answer). elim (first_of ts) [ zero ↦ a | suc m ↦ refused (suc m) 0 ])
      (tests_same est work) (judged d ∙ ap verdict judge-same ∙ sym (judged c))

-- the answer to an accepted table
answered : (ws : List ℕ) → reading ws ≡ accepted → (ρ bound est work : ℕ) → answer ws ρ bound est work ≡ analysis (code ws) ρ bound est work
unfolding answer
answered ws e ρ bound est work =
    ap (λ (o : Outcome). elim o [ accepted ↦ analysis (code ws) ρ bound est work | unreadable n at ↦ refused n at ]) e

pub answer-same : (π σ : ℕ → ℕ) (ws ds : List ℕ) → reading ws ≡ accepted → reading ds ≡ accepted → Both π σ (code ws) (code ds)
    → (code ws).size ≡ (code ds).size → (ρ bound est work : ℕ) → answer ds ρ bound est work ≡ answer ws ρ bound est work
answer-same π σ ws ds e f b s ρ bound est work =
    answered ds f ρ bound est work ∙ analysis-same π σ (code ws) (code ds) b s ρ bound est work ∙ sym (answered ws e ρ bound est work)
