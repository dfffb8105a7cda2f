-- Little-endian words of four bytes: a list of bytes as words, and a list of words as bytes.
use Rattle.std.specs.Prelude.{ℕ, zero, suc, ◌+◌, ◌*◌, ◌/◌, ◌%◌, min, List, [], ◌∷◌, ◌++◌, length}

-- the number that bytes stand for, the low one first
abbrev pub number : List ℕ → ℕ
number [] = 0
number (b ∷ bs) = b + 256 * number bs

-- the k low bytes of a number, the lowest first
abbrev pub low_bytes : ℕ → ℕ → List ℕ
low_bytes zero n = []
low_bytes (suc k) n = n % 256 ∷ low_bytes k (n / 256)

-- bytes that make no whole word at the end are passed over
unfoldable pub words_of : List ℕ → List ℕ
words_of [] = []
words_of (a ∷ []) = []
words_of (a ∷ b ∷ []) = []
words_of (a ∷ b ∷ c ∷ []) = []
words_of (a ∷ b ∷ c ∷ d ∷ bs) = number (a ∷ b ∷ c ∷ d ∷ []) ∷ words_of bs

unfoldable pub bytes_of : List ℕ → List ℕ
bytes_of [] = []
bytes_of (w ∷ ws) = low_bytes 4 w ++ bytes_of ws

-- how many whole words a list of bytes and a list of words have both room for
abbrev pub whole_words : List ℕ → List ℕ → ℕ
whole_words bytes words = min (length bytes / 4) (length words)
