-- The least estimate of an accepted table passes, with its leak.
use Prim.Native.Nat.{ℕ, ◌^◌, ◌<◌}
use mathlib.Core.Path.{◌≡◌, refl, sym, ◌∙◌}
use mathlib.Core.List.{List}
use native.Mathlib.Nat.{le_of_eq}
use Rattle.permset.specs.Sets.{width}
use Rattle.table.specs.Scan.{accepted, reading}
use Rattle.table.specs.Code.{code}
use Rattle.table.proofs.Linked.{linked}
use Rattle.calculus.specs.Estimate.{estimate, leak}
use Rattle.calculus.proofs.Least.{estimate-well, estimate-obeys}
use Rattle.checker.proofs.Laws.{estimate-unbroken}
use Rattle.stray.proofs.Clean.{proper-unstray}
use Rattle.stray.proofs.Own.{own-proper}
use Rattle.audit.specs.Audited.{obeys, audited}
use Rattle.audit.specs.Passes.{Passes}
use Rattle.audit.proofs.Steps.{rules-obeyed, none-stray, same_length, low-rho, table-accepted}

module _ (ws : List ℕ) (r : reading ws ≡ accepted) (ρ : ℕ) (h : ρ < 2 ^ width) where
  abbrev own : List ℕ
  own = estimate (code ws) ρ

  pub own-passes : Passes ws ρ own
  own-passes =
      record {
        readable = r;
        small = h;
        long = (estimate-well (code ws) (linked ws r) ρ).long;
        clean = own-proper (code ws) (linked ws r) ρ;
        obeyed = estimate-obeys (code ws) (linked ws r) ρ;
      }

  pub own-audited : audited ws ρ own ≡ obeys (leak (code ws) ρ own)
  own-audited =
      let c = code ws in
      let w = estimate-well c (linked ws r) ρ in
      let b = estimate-unbroken c ρ own own-passes.obeyed in
      let s = proper-unstray c own w.words own-passes.clean in
      sym (rules-obeyed c ρ own _ (sym b) (le_of_eq refl) _ refl ∙ none-stray c ρ own _ (sym s) (le_of_eq refl) ∙ same_length c ρ own w.long ∙ low-rho c ρ own h
      ∙ table-accepted ws ρ own r)
