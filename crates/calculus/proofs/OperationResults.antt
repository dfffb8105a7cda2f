-- The rule of an operation with the word that the code computes: from a table of signs for add and less, from shared digits for equal.
use Prim.Native.Nat.{ℕ, ◌*◌, ◌<◌}
use mathlib.Core.Path.{◌≡◌, ap, ◌∙◌}
use mathlib.Core.List.{List, [], ◌∷◌}
use lib.ListN.{length}
use Rattle.table.specs.declared.Operation.{Operation}
use Rattle.table.specs.declared.Operation.TheVariants as operations
use Rattle.table.specs.Code.{Code, operation}
use Rattle.calculus.specs.Elements.{plain}
use Rattle.calculus.specs.Constraint.{C}
use Rattle.calculus.specs.Rules.{two_rule}
use Rattle.calculus.specs.Layout.{pour, base, Words, WellFormed}
use Rattle.calculus.specs.Estimate.{fire}
unfoldable pub use Rattle.calculus.specs.ResultWords.{operation_mask}
use Rattle.calculus.proofs.OperationMasks.{result_mask, side, side-words, side-length, fire-operation}
use Rattle.calculus.proofs.SignResults.{sum-results, less-results}
use Rattle.calculus.proofs.EqualResults.{equal-results}

module _ (c : Code) (lead : ℕ) (n : plain c ≡ 32 * lead) where
  pub result-mask : (o : Operation) (xs ys : List ℕ) → length xs ≡ lead → length ys ≡ lead → Words xs → Words ys
      → result_mask c o xs ys ≡ operation_mask o xs ys
  unfolding operation_mask
  result-mask operations.Add xs ys lx ly hx hy = sum-results c xs ys
  result-mask operations.Less xs ys lx ly hx hy = less-results c xs ys
  result-mask operations.Equal xs ys lx ly hx hy = equal-results c lead n xs ys lx ly hx hy

  pub side-mask : (ws : List ℕ) → WellFormed c ws → (a d : ℕ) → a < c.size → d < c.size → (o : Operation)
      → result_mask c o (side c lead ws a) (side c lead ws d) ≡ operation_mask o (side c lead ws a) (side c lead ws d)
  side-mask ws w a d ha hd o =
      result-mask o (side c lead ws a) (side c lead ws d) (side-length c lead n ws w a ha) (side-length c lead n ws w d hd)
      (side-words c lead ws w.words a) (side-words c lead ws w.words d)

  pub fire-operation-mask : (ws : List ℕ) → WellFormed c ws → (p a d : ℕ) → p < c.size → a < c.size → d < c.size → (a ≡ p → ⊥) → (d ≡ p → ⊥)
      → (o : Operation)
      → fire c (two_rule c p (operation o) a d) ws ≡ pour ws (base c (C p)) (operation_mask o (side c lead ws a) (side c lead ws d) ∷ [])
  fire-operation-mask ws w p a d hp ha hd na nd o =
      fire-operation c lead n ws w p a d hp ha hd na nd o ∙ ap (λ (m : ℕ). pour ws (base c (C p)) (m ∷ [])) (side-mask ws w a d ha hd o)
