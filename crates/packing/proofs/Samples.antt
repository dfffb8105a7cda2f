-- The words that bytes stand for in a stream, computed: whole words, a part of one, none.
use mathlib.Core.Path.{◌≡◌, refl}
use mathlib.Core.List.{[], ◌∷◌, map}
use Rattle.packing.specs.Packing.{table_words}

pub words-of-bytes : map table_words ((0 ∷ 0 ∷ 0 ∷ 1 ∷ []) ∷ (0 ∷ 0 ∷ 0 ∷ 1 ∷ 7 ∷ []) ∷ [] ∷ []) ≡ (0x01000000 ∷ []) ∷ (0x01000000 ∷ 0 ∷ []) ∷ [] ∷ []
unfolding table_words
words-of-bytes = refl
