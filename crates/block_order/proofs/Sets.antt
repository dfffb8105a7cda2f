-- Two codes that rename each other's words, there and back: the same sets once words and made elements are renumbered, and the same leak.
use Prim.Native.Nat.{ℕ, ◌<◌}
use mathlib.Core.Path.{◌≡◌, sym, ap, ap₂, ◌∙◌, subst}
use mathlib.Core.Logic.{◌⊎◌, inl, inr}
use native.Mathlib.Omega.{arith}
use lib.Dec.{T}
use Rattle.permset.specs.Sets.{width, member}
use Rattle.permset.proofs.Laws.{same-below}
use Rattle.table.specs.Code.{Code, Linked}
use Rattle.calculus.specs.Elements.{plain, made}
use Rattle.calculus.specs.Constraint.{Row, C, B, P, L}
use Rattle.calculus.specs.Layout.{sets}
use Rattle.calculus.specs.Estimate.{estimate, leak}
use Rattle.calculus.proofs.Masks.{bool-ext}
use Rattle.calculus.proofs.Leak.{leak-lt}
use Rattle.renaming.specs.Renaming.{Renamed, rename_row, rename_element, carried}
use Rattle.renaming.proofs.Elements.{element, el-plain, el-made}
use Rattle.renaming.proofs.Leaks.{estimate-inside, leak-inside}

-- words of c and d renamed, there and back
pub record Both (π σ : ℕ → ℕ) (c d : Code) : Type 0 where
  pub there : (p : ℕ) → σ (π p) ≡ p
  pub back : (q : ℕ) → π (σ q) ≡ q
  pub to : Renamed π c d
  pub from : Renamed σ d c
  pub first : Linked c
  pub second : Linked d

pub turned : {π σ : ℕ → ℕ} {c d : Code} → Both π σ c d → Both σ π d c
turned b = record { there = b.back; back = b.there; to = b.from; from = b.to; first = b.second; second = b.first }

module _ (π σ : ℕ → ℕ) (c d : Code) (b : Both π σ c d) where
  pub row_back : (r : Row) → rename_row σ (rename_row π r) ≡ r
  unfolding rename_row
  row_back (C i) = ap C (b.there i)
  row_back (B i) = ap B (b.there i)
  row_back (P i) = ap P (b.there i)
  row_back (L i) = ap L (b.there i)

  pub same_names : c.names ≡ d.names
  same_names = let n = b.to.names in let m = b.from.names in omega arith

  pub element-back : (v : ℕ) → rename_element σ d c (rename_element π c d v) ≡ v
  element-back v = go (element c v)
    where
      go : (v < plain c) ⊎ ((i : ℕ) × (v ≡ made c i)) → rename_element σ d c (rename_element π c d v) ≡ v
      go (inl h) = ap (rename_element σ d c) (el-plain π c d v h) ∙ el-plain σ d c v (let n = same_names in omega arith)
      go (inr (i, e)) =
          ap (λ (x : ℕ). rename_element σ d c (rename_element π c d x)) e
          ∙ ap (rename_element σ d c) (el-made π c d i)
          ∙ el-made σ d c (π i)
          ∙ ap (made c) (b.there i)
          ∙ sym e

  module _ (ρ : ℕ) where
    -- what the one has the other has
    pub has-renamed : (r : Row) (v : ℕ) → T (sets c (estimate c ρ) r v) → T (sets d (estimate d ρ) (rename_row π r) (rename_element π c d v))
    unfolding carried
    has-renamed r v t = estimate-inside π c d b.to b.first b.second ρ r v t

    has-back : (r : Row) (v : ℕ) → T (sets d (estimate d ρ) (rename_row π r) (rename_element π c d v)) → T (sets c (estimate c ρ) r v)
    unfolding carried
    has-back r v t =
        subst T (ap₂ (sets c (estimate c ρ)) (row_back r) (element-back v))
        (estimate-inside σ d c b.from b.second b.first ρ (rename_row π r) (rename_element π c d v) t)

    pub sets_same : (r : Row) (v : ℕ) → sets d (estimate d ρ) (rename_row π r) (rename_element π c d v) ≡ sets c (estimate c ρ) r v
    sets_same r v = bool-ext _ _ (has-back r v) (has-renamed r v)

    pub leak-same : leak d ρ (estimate d ρ) ≡ leak c ρ (estimate c ρ)
    leak-same =
        same-below width (leak d ρ (estimate d ρ)) (leak c ρ (estimate c ρ)) (leak-lt d ρ (estimate d ρ)) (leak-lt c ρ (estimate c ρ))
        (λ i l. bool-ext (member (leak d ρ (estimate d ρ)) i) (member (leak c ρ (estimate c ρ)) i)
        (leak-inside σ d c b.from b.second b.first ρ i) (leak-inside π c d b.to b.first b.second ρ i))
