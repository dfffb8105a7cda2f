-- The joined system: the base's blocks in its order, each replaced where the overlay has the same key, then the overlay's new ones
-- in theirs (document 02, wish 5).
use Rattle.std.specs.Prelude.{ℕ, zero, suc, List, [], ◌∷◌, ◌++◌, map, ltb, length, drop}
use Rattle.table.specs.Words.{narrow, size}
use Rattle.table.specs.Scan.{accepted, refused, first_of}
use Rattle.blocks.specs.Blocks.{blocks, table_of, name_of, perms_of}
use Rattle.overlay.specs.Lookup.{tables_read, nothing, found, seek}

-- a block of the base, or the overlay's block with its key
unfoldable pub replaced : (overlay : List (List ℕ)) → List ℕ → List ℕ
replaced os b = elim (seek (name_of b) (perms_of b) 1 os) [ nothing ↦ b | found a o ↦ o ]

-- the overlay's blocks whose key no block of the base has
unfoldable pub fresh : (base overlay : List (List ℕ)) → List (List ℕ)
fresh bs [] = []
fresh bs (o ∷ os) = elim (seek (name_of o) (perms_of o) 1 bs) [ nothing ↦ o ∷ fresh bs os | found a b ↦ fresh bs os ]

abbrev pub joined_blocks : (base overlay : List (List ℕ)) → List (List ℕ)
joined_blocks bs os = map (replaced os) bs ++ fresh bs os

unfoldable pub joined : (base overlay : List ℕ) → List ℕ
joined base overlay = table_of 1 (joined_blocks (blocks base) (blocks overlay))

-- what a join answers: how many words it wrote, or its refusal
pub data Answer : Type 0 where
  written : (words : ℕ) → Answer
  refusal : (number place : ℕ) → Answer

-- the number that refuses the join of two accepted tables, 0 where it is written to a slice of so many words
unfoldable pub join_fault : (base overlay : List ℕ) (room : ℕ) → ℕ
join_fault base overlay room =
    first_of
    ((ltb narrow (length (joined_blocks (blocks base) (blocks overlay))), 48)
    ∷ (ltb size (length (joined base overlay)), 49)
    ∷ (ltb room (length (joined base overlay)), 50)
    ∷ [])

unfoldable pub join_answer : (base overlay : List ℕ) (room : ℕ) → Answer
join_answer base overlay room =
    elim (tables_read base overlay) [
      | refused n p ↦ refusal n p
      | accepted ↦ elim (join_fault base overlay room) [ zero ↦ written (length (joined base overlay)) | suc n ↦ refusal (suc n) 0 ]
    ]

-- the output slice afterwards
unfoldable pub out_after : (base overlay out : List ℕ) → List ℕ
out_after base overlay out =
    elim (join_answer base overlay (length out)) [ written n ↦ joined base overlay ++ drop n out | refusal n p ↦ out ]
