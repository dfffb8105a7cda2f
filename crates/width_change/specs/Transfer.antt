-- How the sets of an estimate are read for a code that differs in its number of names alone (document 02, wish 13).
use Rattle.std.specs.Prelude.{ℕ, ◌-◌, List, [], ◌∷◌, Bool, true, false, ◌&&◌, ltb}
use Rattle.table.specs.Code.{Code}
use Rattle.calculus.specs.Elements.{plain, made}
use Rattle.calculus.specs.Constraint.{Row, C, B, P, L, Sets, range}

-- the test holds of each number of a list
unfoldable pub all_of : List ℕ → (ℕ → Bool) → Bool
all_of [] q = true
all_of (x ∷ xs) q = q x && all_of xs q

module _ (c d : Code) where
  -- The elements of c that have to be in a row for v to be in that row of d. Plain data that both have: itself. A name that c has not: all
  -- plain data of c. What a word makes: what that word makes.
  unfoldable pub origins : ℕ → List ℕ
  origins v =
      elim (ltb v (plain d)) [
        | true ↦ elim (ltb v (plain c)) [ true ↦ v ∷ [] | false ↦ range (plain c) 0 ]
        | false ↦ made c (v - plain d) ∷ []
      ]

  -- permissions and flags are the same in both
  unfoldable pub origins_in : Row → ℕ → List ℕ
  origins_in (C i) v = origins v
  origins_in (B i) v = origins v
  origins_in (P i) v = v ∷ []
  origins_in (L i) v = v ∷ []

  -- the sets of an estimate of c, read for d
  unfoldable pub transfer : Sets → Sets
  transfer e r v = all_of (origins_in r v) (e r)
