-- Loops of positions that each may send to the next, and which of them is the first of the shortest.
use Rattle.std.specs.Prelude.{ℕ, ◌≤◌, ◌<◌, ◌≡◌, ◌⊎◌, length}
use mathlib.Core.List.{List, [], ◌∷◌, Memᴰ}
use Rattle.graph.specs.Relation.{Sends}

-- x may send to the first of the list, each of the list to the next, and the last to t
abbrev pub Walk : (rows : List ℕ) (live x : ℕ) → List ℕ → ℕ → Type 0
Walk rows live x [] t = Sends rows live x t
Walk rows live x (y ∷ ys) t = Sends rows live x y × Walk rows live y ys t

-- none is in the list twice
abbrev pub Distinct : List ℕ → Type 0
Distinct [] = Unit {0}
Distinct (x ∷ xs) = (Memᴰ x xs → ⊥) × Distinct xs

-- each may send to the next and the last to the first, none is there twice, and the first is the lowest
abbrev pub Loop : (rows : List ℕ) (live : ℕ) → List ℕ → Type 0
Loop rows live [] = ⊥
Loop rows live (x ∷ xs) = Walk rows live x xs x × Distinct (x ∷ xs) × ((y : ℕ) → Memᴰ y xs → x ≤ y)

-- the second list does not come before the first when positions are compared in turn
abbrev pub NotAfter : List ℕ → List ℕ → Type 0
NotAfter [] ys = Unit {0}
NotAfter (x ∷ xs) [] = ⊥
NotAfter (x ∷ xs) (y ∷ ys) = (x < y) ⊎ ((x ≡ y) × NotAfter xs ys)

-- a loop than which none is shorter, and of those as short none comes first
pub record Shortest (rows : List ℕ) (live : ℕ) (loop : List ℕ) : Type 0 where
  pub is_loop : Loop rows live loop
  pub fewest : (other : List ℕ) → Loop rows live other → length loop ≤ length other
  pub first : (other : List ℕ) → Loop rows live other → length other ≡ length loop → NotAfter loop other
