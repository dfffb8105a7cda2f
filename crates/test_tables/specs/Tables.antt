-- The words that tables of cases are filled with.
use Rattle.std.specs.Prelude.{ℕ, zero, suc, ◌-◌, ◌/◌, ◌%◌, ◌^◌, true, false, List, [], ◌∷◌, eqb, leb, get_or}
use Rattle.table.specs.Words.{word_of}

-- a list with f n, f (n + 1) and so on for its words from the place `at` on
unfoldable pub numbered : (ℕ → ℕ) → ℕ → List ℕ → ℕ → List ℕ
numbered f n [] at = []
numbered f n (w ∷ ws) zero = f n ∷ numbered f (suc n) ws zero
numbered f n (w ∷ ws) (suc at) = w ∷ numbered f n ws at

-- one word at even numbers, another at odd ones
unfoldable pub in_turn : ℕ → ℕ → ℕ → ℕ
in_turn even odd n = elim (eqb (n % 2) 0) [ true ↦ even | false ↦ odd ]

-- word 0 and the block words of a table of one handler
abbrev pub head_words : List ℕ
head_words = word_of 1 1 ∷ word_of 2 0 ∷ word_of 3 3 ∷ word_of 4 0 ∷ []

-- word n of a row of blocks of so many words: name, permissions, which count from 0, guard, new cells, and last the handler's message
unfoldable pub block_word : ℕ → ℕ → ℕ → ℕ
block_word span name n =
    elim (leb (span - 1) (n % span)) [
      | true ↦ word_of 20 0
      | false ↦ get_or (word_of 2 (name % 2 ^ 24) ∷ word_of 3 (n / span % 2 ^ 24) ∷ word_of 4 0 ∷ []) (n % span) (word_of 32 0)
    ]
