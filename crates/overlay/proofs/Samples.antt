-- Samples of the look-up and of the join, computed.
use Prim.Native.Nat.{ℕ, ◌+◌, ◌^◌}
use mathlib.Core.Path.{◌≡◌, refl}
use mathlib.Core.List.{List, [], ◌∷◌, ◌++◌, flatten}
use lib.ListN.{replicate}
use Rattle.table.specs.Words.{word_of, parts, parts_by_kind, arity, limit, limits_by_kind, names_of}
use Rattle.table.specs.Scan.{first_of, has, tests, fault, missing, keep, under, next, scan, reading, narrow_reading}
use Rattle.table.specs.Code.{skip}
use Rattle.blocks.specs.Blocks.{block_length, cut, blocks, table_of}
use Rattle.overlay.specs.Lookup.{tables_read, seek, in_base, in_overlay, refusal, place_of, looked_up}
use Rattle.overlay.specs.Join.{replaced, fresh, joined, join_fault, join_answer, out_after}
use Rattle.overlay.specs.Join as join

-- *relay* of document 01: handler 0 with the set 8, and handler 1 with the set 2
unfoldable pub relay : List ℕ
relay =
    word_of 1 2 ∷ word_of 2 0 ∷ word_of 3 8 ∷ word_of 4 0 ∷ word_of 35 0 ∷ word_of 19 1 ∷ word_of 20 0
    ∷ word_of 2 1 ∷ word_of 3 2 ∷ word_of 4 8 ∷ word_of 36 2 ∷ []

-- an overlay: handler 1 with the set 4, which is new, and handler 1 with the set 2, which replaces relay's
unfoldable pub over : List ℕ
over =
    word_of 1 2 ∷ word_of 2 1 ∷ word_of 3 4 ∷ word_of 4 8 ∷ word_of 36 4
    ∷ word_of 2 1 ∷ word_of 3 2 ∷ word_of 4 0 ∷ word_of 28 0 ∷ []

unfoldable pub both : List ℕ
both =
    word_of 1 3 ∷ word_of 2 0 ∷ word_of 3 8 ∷ word_of 4 0 ∷ word_of 35 0 ∷ word_of 19 1 ∷ word_of 20 0
    ∷ word_of 2 1 ∷ word_of 3 2 ∷ word_of 4 0 ∷ word_of 28 0
    ∷ word_of 2 1 ∷ word_of 3 4 ∷ word_of 4 8 ∷ word_of 36 4 ∷ []

-- A block of both, one of the base alone, and a set of more than 24 bits that is no block's; then a base that is refused, and an
-- overlay that is refused.
pub places : (
    place_of relay over 1 2
    ∷ place_of relay over 0 8
    ∷ place_of relay over 0 (2 ^ 24 + 2)
    ∷ place_of (word_of 1 33 ∷ []) [] 0 8
    ∷ place_of relay (word_of 1 0 ∷ word_of 1 0 ∷ []) 0 8
    ∷ [])
    ≡ (in_overlay 5 9 ∷ in_base 1 7 ∷ refusal 47 0 ∷ refusal 3 0 ∷ refusal 112 1 ∷ [])
unfolding relay over place_of tables_read narrow_reading reading scan fault first_of tests has missing keep next under names_of limit limits_by_kind parts parts_by_kind blocks cut block_length skip arity seek
places = refl

pub words : looked_up relay over 1 2 ≡ word_of 2 1 ∷ word_of 3 2 ∷ word_of 4 0 ∷ word_of 28 0 ∷ []
unfolding relay over looked_up tables_read narrow_reading reading scan fault first_of tests has missing keep next under names_of limit limits_by_kind parts parts_by_kind blocks cut block_length skip arity seek
words = refl

-- a join with a word to spare, and without room
pub joins : (out_after relay over (replicate 16 7) ∷ out_after relay over (replicate 14 7) ∷ []) ≡ ((both ++ 7 ∷ []) ∷ replicate 14 7 ∷ [])
unfolding relay over both out_after join_answer join_fault joined replaced fresh table_of flatten tables_read narrow_reading reading scan fault first_of tests has missing keep next under names_of limit limits_by_kind parts parts_by_kind blocks cut block_length skip arity seek
joins = refl

pub short : join_answer relay over 14 ≡ join.refusal 50 0
unfolding relay over join_answer join_fault joined replaced fresh table_of flatten tables_read narrow_reading reading scan fault first_of tests has missing keep next under names_of limit limits_by_kind parts parts_by_kind blocks cut block_length skip arity seek
short = refl
