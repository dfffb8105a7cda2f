-- An order of the live positions in which each follows all that may send to it, the lowest first among those free.
use Rattle.std.specs.Prelude.{ℕ, ◌≤◌, ◌≡◌}
use mathlib.Core.List.{List, ◌∷◌, ◌++◌, Memᴰ}
use Rattle.graph.specs.Relation.{Live, Sends}

-- p is free once those of `before` are placed: it is live and not one of them, and all that may send to it are
pub record Free (rows : List ℕ) (live : ℕ) (before : List ℕ) (p : ℕ) : Type 0 where
  pub lives : Live rows live p
  pub unplaced : Memᴰ p before → ⊥
  pub follows : (s : ℕ) → Sends rows live s p → Memᴰ s before

-- every live position is in the list, and each position of the list is the lowest of those free at its moment (so none is there twice)
pub record Order (rows : List ℕ) (live : ℕ) (order : List ℕ) : Type 0 where
  pub whole : (p : ℕ) → Live rows live p → Memᴰ p order
  pub free : (before : List ℕ) (p : ℕ) (after : List ℕ) → order ≡ before ++ p ∷ after → Free rows live before p
  pub lowest : (before : List ℕ) (p : ℕ) (after : List ℕ) → order ≡ before ++ p ∷ after
      → (q : ℕ) → Free rows live before q → p ≤ q
