-- The blocks of a table (document 01, "The table"): a table is its word 0 and its blocks, and a block is a name, a permission set, a
-- guard and one body term.
use Rattle.std.specs.Prelude.{ℕ, zero, suc, ◌+◌, ◌≡◌, false, length, get_or, take, drop}
use mathlib.Core.List.{List, [], ◌∷◌, flatten}
use Rattle.table.specs.Words.{argument, word_of}
use Rattle.table.specs.Scan.{name, accepted, has, key, scan}
use Rattle.table.specs.Code.{skip}

-- how many words the block at the front of a list has
unfoldable pub block_length : List ℕ → ℕ
block_length ws = suc (suc (suc (skip (drop 3 ws) 1)))

-- the first n blocks of a list of words
unfoldable pub cut : ℕ → List ℕ → List (List ℕ)
unfolding block_length
cut zero ws = []
cut (suc n) ws = take (block_length ws) ws ∷ cut n (drop (block_length ws) ws)

-- the blocks of a table, in order
unfoldable pub blocks : List ℕ → List (List ℕ)
unfolding cut
blocks ws = cut (argument (get_or ws 0 0)) (drop 1 ws)

-- where blocks start, the first of them at a place
unfoldable pub places : ℕ → List (List ℕ) → List ℕ
places at [] = []
places at (b ∷ bs) = at ∷ places (at + length b) bs

-- the table that has these blocks, by the kind of its word 0
unfoldable pub table_of : ℕ → List (List ℕ) → List ℕ
table_of k bs = word_of k (length bs) ∷ flatten bs

-- a block's name, its permission set, and its key: the two together
abbrev pub name_of : List ℕ → ℕ
name_of b = argument (get_or b 0 0)

abbrev pub perms_of : List ℕ → ℕ
perms_of b = argument (get_or b 1 0)

abbrev pub key_of : List ℕ → ℕ
key_of b = key (name_of b) (perms_of b)

-- a block that is read to its end where it stands alone, in a table of so many names
unfoldable pub Good : ℕ → List ℕ → Type 0
Good names b = scan names b [] 0 (name ∷ []) ≡ accepted

-- what holds of each block
abbrev pub All : (List ℕ → Type 0) → List (List ℕ) → Type 0
All P [] = Unit {0}
All P (b ∷ bs) = P b × All P bs

-- no two are equal
abbrev pub Distinct : List ℕ → Type 0
Distinct [] = Unit {0}
Distinct (k ∷ ks) = (has ks k ≡ false) × Distinct ks
