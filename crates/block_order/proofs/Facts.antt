-- Two codes that rename each other's words, there and back, have equally many facts.
use Prim.Native.Nat.{ℕ, ◌*◌, ◌≤◌, ◌<◌}
use mathlib.Core.Path.{◌≡◌, sym, ap, ap₂, ◌∙◌, subst}
use mathlib.Core.List.{List}
use native.Mathlib.Omega.{arith}
use lib.Dec.{T}
use Rattle.table.specs.Code.{Code}
use Rattle.calculus.specs.Layout.{bit, estimate_words, place, sets}
use Rattle.calculus.specs.Estimate.{estimate, facts}
use Rattle.calculus.proofs.Counting.{count, facts-count}
use Rattle.calculus.proofs.Places.{At, used-place, place-lt, place-injective}
use Rattle.calculus.proofs.Rows.{sets-allowed, sets-bit, in-sets}
use Rattle.calculus.proofs.Least.{estimate-well}
use Rattle.renaming.specs.Renaming.{rename_row, rename_element}
use Rattle.block_order.proofs.Sets.{Both, turned, row_back, element-back, has-renamed}
use Rattle.block_order.proofs.Injections.{Injects, injected}

module _ (π σ : ℕ → ℕ) (c d : Code) (b : Both π σ c d) (ρ : ℕ) where
  abbrev us : List ℕ
  us = estimate c ρ

  abbrev vs : List ℕ
  vs = estimate d ρ

  abbrev digits : Code → ℕ
  digits a = 32 * estimate_words a

  -- the row and the element of a digit that is set
  found : (n : ℕ) → n < digits c → T (bit us n) → At c n
  found n l t = used-place c n l ((estimate-well c b.first ρ).clean n t)

  -- where it stands once words are renumbered
  image : (n : ℕ) → n < digits c → T (bit us n) → ℕ
  image n l t = let a = found n l t in place d (rename_row π a.row) (rename_element π c d a.element)

  held : (n : ℕ) (l : n < digits c) (t : T (bit us n)) → T (sets d vs (rename_row π (found n l t).row) (rename_element π c d (found n l t).element))
  held n l t =
      let a = found n l t in
      has-renamed π σ c d b ρ a.row a.element (in-sets c us a.row a.element a.may (subst (λ (k : ℕ). T (bit us k)) a.here t))

  moved : Injects (digits c) (digits d) (bit us) (bit vs)
  unfolding image
  moved =
      record {
        image = image;
        below = λ n l t. place-lt d _ _ (sets-allowed d vs _ _ (held n l t));
        lands = λ n l t. sets-bit d vs _ _ (held n l t);
        apart = λ n l t m i u e.
            let x = found n l t in
            let y = found m i u in
            let s = place-injective d _ _ _ _ (sets-allowed d vs _ _ (held n l t)) (sets-allowed d vs _ _ (held m i u)) e in
            let r : x.row ≡ y.row = sym (row_back π σ c d b x.row) ∙ ap (rename_row σ) s.0 ∙ row_back π σ c d b y.row in
            let v : x.element ≡ y.element =
            sym (element-back π σ c d b x.element) ∙ ap (rename_element σ d c) s.1 ∙ element-back π σ c d b y.element in
            x.here ∙ ap₂ (place c) r v ∙ sym y.here;
      }

  facts-le : facts (estimate c ρ) ≤ facts (estimate d ρ)
  facts-le =
      let e : facts us ≡ count (digits c) (bit us) = facts-count us ∙ ap (λ (n : ℕ). count (32 * n) (bit us)) (estimate-well c b.first ρ).long in
      let f : facts vs ≡ count (digits d) (bit vs) = facts-count vs ∙ ap (λ (n : ℕ). count (32 * n) (bit vs)) (estimate-well d b.second ρ).long in
      omega (arith, injected (digits c) (digits d) (bit us) (bit vs) moved)

pub facts-same : (π σ : ℕ → ℕ) (c d : Code) → Both π σ c d → (ρ : ℕ) → facts (estimate d ρ) ≡ facts (estimate c ρ)
facts-same π σ c d b ρ = omega (arith, facts-le π σ c d b ρ, facts-le σ π d c (turned b) ρ)
