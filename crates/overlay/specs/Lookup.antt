-- The block with a name and a permission set in one of two tables: the overlay's if it is there, otherwise the base's
-- (document 02, wish 5).
use Rattle.std.specs.Prelude.{ℕ, ◌+◌, Bool, true, false, ◌&&◌, List, [], ◌∷◌, eqb, length}
use Rattle.table.specs.Scan.{Outcome, accepted, refused, narrow_reading}
use Rattle.blocks.specs.Blocks.{blocks, name_of, perms_of}

-- the numbers of the two tables: the base's, then the overlay's plus 100
unfoldable pub tables_read : (base overlay : List ℕ) → Outcome
tables_read base overlay =
    elim (narrow_reading base) [
      | refused n p ↦ refused n p
      | accepted ↦ elim (narrow_reading overlay) [ refused n p ↦ refused (100 + n) p | accepted ↦ accepted ]
    ]

-- a block has this name and this permission set
abbrev pub keyed : (name perms : ℕ) → List ℕ → Bool
keyed n s b = eqb (name_of b) n && eqb (perms_of b) s

-- what a search finds: where a block starts, and its words
pub data Sought : Type 0 where
  nothing : Sought
  found : (start : ℕ) (words : List ℕ) → Sought

-- the block with this name and this permission set, among blocks of which the first starts at `at`
unfoldable pub seek : (name perms at : ℕ) → List (List ℕ) → Sought
seek n s at [] = nothing
seek n s at (b ∷ bs) = elim (keyed n s b) [ true ↦ found at b | false ↦ seek n s (at + length b) bs ]

abbrev pub sought : List ℕ → (name perms : ℕ) → Sought
sought ws n s = seek n s 1 (blocks ws)

-- where the block is: in which table, from which word up to which
pub data Place : Type 0 where
  in_base : (start end : ℕ) → Place
  in_overlay : (start end : ℕ) → Place
  refusal : (number place : ℕ) → Place

abbrev pub place_in : (base overlay : Sought) → Place
place_in base (found a b) = in_overlay a (a + length b)
place_in (found a b) nothing = in_base a (a + length b)
place_in nothing nothing = refusal 47 0

abbrev pub words_in : (base overlay : Sought) → List ℕ
words_in base (found a b) = b
words_in (found a b) nothing = b
words_in nothing nothing = []

unfoldable pub place_of : (base overlay : List ℕ) (name perms : ℕ) → Place
place_of base overlay n s =
    elim (tables_read base overlay) [ refused k p ↦ refusal k p | accepted ↦ place_in (sought base n s) (sought overlay n s) ]

-- its words; none where it is refused
unfoldable pub looked_up : (base overlay : List ℕ) (name perms : ℕ) → List ℕ
looked_up base overlay n s =
    elim (tables_read base overlay) [ refused k p ↦ [] | accepted ↦ words_in (sought base n s) (sought overlay n s) ]
