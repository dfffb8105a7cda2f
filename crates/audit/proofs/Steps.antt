-- The answer by what each test finds.
use Prim.Native.Nat.{ℕ, ◌^◌, ◌≤◌, ◌<◌}
use mathlib.Core.Path.{◌≡◌, sym, ap, ◌∙◌}
use mathlib.Core.Bool.{Bool, true, false}
use mathlib.Core.List.{List}
use native.Mathlib.Omega.{arith}
use borrow.Author.Tests.{eq-eqb, ne_eqb, lt-ltb, le-ltb, le-leb, lt-leb}
use lib.ListN.{length}
use Rattle.permset.specs.Sets.{width}
use Rattle.table.specs.Scan.{Outcome, accepted, reading}
use Rattle.table.specs.Scan.{refused as unreadable}
use Rattle.table.specs.Code.{Code, code}
use Rattle.calculus.specs.Layout.{estimate_words}
use Rattle.calculus.specs.Estimate.{leak}
use Rattle.stray.specs.Stray.{first_stray}
use Rattle.checker.specs.Obeyed.{first_broken}
use Rattle.audit.specs.Audited.{Answer, refused, obeys, ruled, swept, sized, judged, audited}

-- an answer by a test
abbrev by : Answer → Answer → Bool → Answer
by a b t = elim t [ true ↦ a | false ↦ b ]

module _ (c : Code) (ρ : ℕ) (est : List ℕ) where
  pub rule-broken : (p : ℕ) → p ≡ first_broken c ρ est → p < c.size → refused 54 p ≡ ruled c ρ est
  unfolding ruled
  rule-broken p e h =
      ap (refused 54) e ∙ ap (by (refused 54 (first_broken c ρ est)) (obeys (leak c ρ est))) (sym (lt-ltb (first_broken c ρ est) c.size (omega arith)))

  pub rules-obeyed : (p : ℕ) → p ≡ first_broken c ρ est → c.size ≤ p → (s : ℕ) → s ≡ leak c ρ est → obeys s ≡ ruled c ρ est
  unfolding ruled
  rules-obeyed p e h s q =
      ap obeys q ∙ ap (by (refused 54 (first_broken c ρ est)) (obeys (leak c ρ est))) (sym (le-ltb (first_broken c ρ est) c.size (omega arith)))

  pub bit-stray : (k : ℕ) → k ≡ first_stray c est → k < length est → refused 53 k ≡ swept c ρ est
  unfolding swept
  bit-stray k e h =
      ap (refused 53) e ∙ ap (by (refused 53 (first_stray c est)) (ruled c ρ est)) (sym (lt-ltb (first_stray c est) (length est) (omega arith)))

  pub none-stray : (k : ℕ) → k ≡ first_stray c est → length est ≤ k → ruled c ρ est ≡ swept c ρ est
  unfolding swept
  none-stray k e h = ap (by (refused 53 (first_stray c est)) (ruled c ρ est)) (sym (le-ltb (first_stray c est) (length est) (omega arith)))

  pub other_length : (length est ≡ estimate_words c → ⊥) → refused 52 0 ≡ sized c ρ est
  unfolding sized
  other_length n = ap (by (swept c ρ est) (refused 52 0)) (sym (ne_eqb (length est) (estimate_words c) n))

  pub same_length : length est ≡ estimate_words c → swept c ρ est ≡ sized c ρ est
  unfolding sized
  same_length e = ap (by (swept c ρ est) (refused 52 0)) (sym (eq-eqb (length est) (estimate_words c) e))

  pub high-rho : 2 ^ width ≤ ρ → refused 20 0 ≡ judged c ρ est
  unfolding judged
  high-rho h = ap (by (refused 20 0) (sized c ρ est)) (sym (le-leb (2 ^ width) ρ h))

  pub low-rho : ρ < 2 ^ width → sized c ρ est ≡ judged c ρ est
  unfolding judged
  low-rho h = ap (by (refused 20 0) (sized c ρ est)) (sym (lt-leb (2 ^ width) ρ h))

module _ (ws : List ℕ) (ρ : ℕ) (est : List ℕ) where
  abbrev of : Outcome → Answer
  of o = elim o [ accepted ↦ judged (code ws) ρ est | unreadable n at ↦ refused n at ]

  pub table-refused : (n at : ℕ) → reading ws ≡ unreadable n at → refused n at ≡ audited ws ρ est
  unfolding audited
  table-refused n at e = ap of (sym e)

  pub table-accepted : reading ws ≡ accepted → judged (code ws) ρ est ≡ audited ws ρ est
  unfolding audited
  table-accepted e = ap of (sym e)
