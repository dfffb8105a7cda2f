-- The converters keep the leak, and what is said of it, whatever the opponent's permissions (document 02, wish 13).
use Prim.Native.Nat.{ℕ}
use mathlib.Core.Path.{◌≡◌, refl, sym, ap, subst}
use mathlib.Core.Bool.{not}
use mathlib.Core.List.{List}
use Rattle.permset.specs.Sets.{difference, within, lowest}
use Rattle.table.specs.Words.{wide}
use Rattle.table.specs.Scan.{accepted, reading}
use Rattle.table.specs.Code.{Code, Linked, code}
use Rattle.table.proofs.Linked.{linked}
use Rattle.widths.specs.Converters.{widened, narrowed, read_as, narrowable}
use Rattle.widths.proofs.Refusals.{accepted-kind}
use Rattle.widths.proofs.Codes.{code-widened}
use Rattle.widths.proofs.Theorems.{widened-accepted, narrowed-accepted, widened-narrowed}
use Rattle.calculus.specs.Estimate.{estimate, leak}
use Rattle.calculus.specs.Answer.{bound_used, judge}
use Rattle.width_change.specs.Verdicts.{SameButFacts}
use Rattle.width_change.proofs.Leaks.{leak-same}

-- every narrow table made wide
pub leak-widened : (ws : List ℕ) → read_as 1 ws ≡ accepted → (ρ : ℕ)
    → leak (code (widened ws)) ρ (estimate (code (widened ws)) ρ) ≡ leak (code ws) ρ (estimate (code ws) ρ)
leak-widened ws e ρ =
    let r : reading ws ≡ accepted = (accepted-kind 1 ws e).1 in
    let l : Linked (code (widened ws)) = linked (widened ws) (accepted-kind 5 (widened ws) (widened-accepted ws e)).1 in
    let c = code-widened ws r in
    subst (λ (x : Code). leak x ρ (estimate x ρ) ≡ leak (code ws) ρ (estimate (code ws) ρ)) (sym c)
    (leak-same (code ws) wide (linked ws r) (subst Linked c l) ρ)

-- every wide table that can be made narrow
pub leak-narrowed : (ws : List ℕ) → narrowable ws ≡ accepted → (ρ : ℕ)
    → leak (code (narrowed ws)) ρ (estimate (code (narrowed ws)) ρ) ≡ leak (code ws) ρ (estimate (code ws) ρ)
leak-narrowed ws e ρ =
    sym
    (subst (λ (xs : List ℕ). leak (code xs) ρ (estimate (code xs) ρ) ≡ leak (code (narrowed ws)) ρ (estimate (code (narrowed ws)) ρ))
    (widened-narrowed ws e) (leak-widened (narrowed ws) (narrowed-accepted ws e) ρ))

-- ---- the verdict on a bound

judged-same : (c d : Code) (ρ bound : ℕ) → leak c ρ (estimate c ρ) ≡ leak d ρ (estimate d ρ)
    → SameButFacts (judge c ρ bound (estimate c ρ)) (judge d ρ bound (estimate d ρ))
unfolding judge
judged-same c d ρ bound e =
    record {
      leak = e;
      bound = refl;
      over = ap (λ (x : ℕ). not (within x (bound_used bound))) e;
      first = ap (λ (x : ℕ). lowest (difference x (bound_used bound))) e;
    }

pub judged-widened : (ws : List ℕ) → read_as 1 ws ≡ accepted → (ρ bound : ℕ)
    → SameButFacts (judge (code (widened ws)) ρ bound (estimate (code (widened ws)) ρ)) (judge (code ws) ρ bound (estimate (code ws) ρ))
judged-widened ws e ρ bound = judged-same (code (widened ws)) (code ws) ρ bound (leak-widened ws e ρ)

pub judged-narrowed : (ws : List ℕ) → narrowable ws ≡ accepted → (ρ bound : ℕ)
    → SameButFacts (judge (code (narrowed ws)) ρ bound (estimate (code (narrowed ws)) ρ)) (judge (code ws) ρ bound (estimate (code ws) ρ))
judged-narrowed ws e ρ bound = judged-same (code (narrowed ws)) (code ws) ρ bound (leak-narrowed ws e ρ)
