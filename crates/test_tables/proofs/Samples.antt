-- What the tables are filled with, computed.
use mathlib.Core.Path.{◌≡◌, refl}
use mathlib.Core.List.{[], ◌∷◌}
use Prim.Native.Nat.{ℕ}
use lib.Seq.{sets}
use Rattle.test_tables.specs.Tables.{numbered, in_turn, block_word}

-- as far as there is room, and not at all behind the end
sets-samples : (sets {A = ℕ} (1 ∷ 2 ∷ 3 ∷ []) 1 (7 ∷ 8 ∷ 9 ∷ []) ≡ 1 ∷ 7 ∷ 8 ∷ []) × (sets {A = ℕ} (1 ∷ []) 1 (7 ∷ []) ≡ 1 ∷ [])
sets-samples = (refl, refl)

fill-samples : (numbered (in_turn 7 8) 0 (1 ∷ 2 ∷ 3 ∷ 4 ∷ []) 1 ≡ 1 ∷ 7 ∷ 8 ∷ 7 ∷ []) × (numbered (in_turn 7 8) 0 (1 ∷ []) 2 ≡ 1 ∷ [])
unfolding numbered in_turn
fill-samples = (refl, refl)

-- two blocks of five words and a part of a third
blocks-sample : numbered (block_word 5 9) 0 (0 ∷ 0 ∷ 0 ∷ 0 ∷ 0 ∷ 0 ∷ 0 ∷ 0 ∷ 0 ∷ 0 ∷ 0 ∷ 0 ∷ 0 ∷ []) 1
    ≡ 0
    ∷ 0x02000009 ∷ 0x03000000 ∷ 0x04000000 ∷ 0x20000000 ∷ 0x14000000
    ∷ 0x02000009 ∷ 0x03000001 ∷ 0x04000000 ∷ 0x20000000 ∷ 0x14000000
    ∷ 0x02000009 ∷ 0x03000002 ∷ []
unfolding numbered block_word
blocks-sample = refl

-- a block of one word, or of none, is the message
small-samples : (block_word 1 9 6 ≡ 0x14000000) × (block_word 0 9 6 ≡ 0x14000000)
unfolding block_word
small-samples = (refl, refl)
