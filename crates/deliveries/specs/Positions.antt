-- The blocks of a table counted in the order of its words, and a text made from all words in turn.
use Rattle.std.specs.Prelude.{ℕ, suc, ◌+◌, true, false, List, [], ◌∷◌, ◌++◌, eqb}
use Rattle.table.specs.Words.{kind}

-- how many blocks there are with the word w, where `count` come before it
unfoldable pub counted : (w count : ℕ) → ℕ
counted w count = elim (eqb (kind w) 2) [ true ↦ count + 1 | false ↦ count ]

-- what f makes of each of the words vs, which stand from p on, after `count` blocks: of its place, the blocks before it, and the word
unfoldable pub each_word : (ℕ → ℕ → ℕ → List ℕ) → (p count : ℕ) → List ℕ → List ℕ
unfolding counted
each_word f p count [] = []
each_word f p count (w ∷ vs) = f p count w ++ each_word f (suc p) (counted w count) vs
