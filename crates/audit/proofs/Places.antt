-- The place of a refused estimate is one of the words of the table or of the slice.
use Prim.Native.Nat.{ℕ, ◌+◌, ◌^◌, ◌≤◌}
use mathlib.Core.Path.{◌≡◌, refl}
use mathlib.Core.Bool.{Bool, true, false}
use mathlib.Core.List.{List}
use native.Mathlib.Omega.{arith}
use borrow.Author.Tests.{ltb-true}
use lib.Dec.{eqb, leb, ltb}
use lib.ListN.{length}
use Rattle.permset.specs.Sets.{width}
use Rattle.table.specs.Code.{Code}
use Rattle.calculus.specs.Layout.{estimate_words}
use Rattle.calculus.specs.Estimate.{leak}
use Rattle.stray.specs.Stray.{first_stray}
use Rattle.checker.specs.Obeyed.{first_broken}
use Rattle.audit.specs.Audited.{refused, obeys, place_of, ruled, swept, sized, judged}

module _ (c : Code) (ρ : ℕ) (est : List ℕ) where
  ruled-place : (b : Bool) → ltb (first_broken c ρ est) c.size ≡ b
      → place_of (elim b [ true ↦ refused 54 (first_broken c ρ est) | false ↦ obeys (leak c ρ est) ]) ≤ c.size + length est
  unfolding place_of
  ruled-place true t = omega (arith, ltb-true (first_broken c ρ est) c.size t)
  ruled-place false t = omega arith

  swept-place : (b : Bool) → ltb (first_stray c est) (length est) ≡ b
      → place_of (elim b [ true ↦ refused 53 (first_stray c est) | false ↦ ruled c ρ est ]) ≤ c.size + length est
  unfolding place_of ruled
  swept-place true t = omega (arith, ltb-true (first_stray c est) (length est) t)
  swept-place false t = ruled-place (ltb (first_broken c ρ est) c.size) refl

  sized-place : (b : Bool) → place_of (elim b [ true ↦ swept c ρ est | false ↦ refused 52 0 ]) ≤ c.size + length est
  unfolding place_of swept
  sized-place true = swept-place (ltb (first_stray c est) (length est)) refl
  sized-place false = omega arith

  rho-place : (b : Bool) → place_of (elim b [ true ↦ refused 20 0 | false ↦ sized c ρ est ]) ≤ c.size + length est
  unfolding place_of sized
  rho-place true = omega arith
  rho-place false = sized-place (eqb (length est) (estimate_words c))

  pub judged-place : place_of (judged c ρ est) ≤ c.size + length est
  unfolding judged
  judged-place = rho-place (leb (2 ^ width) ρ)
