-- A system of the stream of a class (document 02, wish 14): its length, ρ and its words; made of whatever input, so that the class is told what is wrong
-- with it, and the systems behind it are read.
use Rattle.std.specs.Prelude.{ℕ, zero, suc, ◌%◌, Bool, true, false, ◌&&◌, List, [], ◌∷◌, ◌++◌, leb, length, Result, Ok, Err}
use Rattle.little_endian.specs.LittleEndian.{words_of, bytes_of}
use Rattle.listing.specs.Listing.{most}
use Rattle.listing.specs.Listing.{words_of as line_words}
use Rattle.packing.specs.declared.TooLarge.{TooLarge}

-- the most words of a system in a stream
abbrev pub most_words : ℕ
most_words = 256

-- what a stream can hold: at most 65,536 bytes of input that stand for at most 256 words
unfoldable pub holds : (bytes : ℕ) (words : List ℕ) → Bool
holds bytes words = leb bytes most && leb (length words) most_words

-- the words that the stream gets, none where it cannot hold them
unfoldable pub kept : (bytes : ℕ) (words : List ℕ) → List ℕ
unfolding holds
kept bytes words = elim (holds bytes words) [ true ↦ words | false ↦ [] ]

-- the length, ρ and the words
abbrev pub packed : (ρ : ℕ) (words : List ℕ) → List ℕ
packed ρ words = bytes_of (length words ∷ ρ ∷ words)

-- of a listing: the word of each line, leading spaces aside, and 0 for a line that spells no word, which no table has at any place
abbrev pub listing_packed : (ρ : ℕ) (text : List ℕ) → List ℕ
listing_packed ρ text = packed ρ (kept (length text) (line_words text))

-- of words: each whole word, and 0 for bytes behind the last one that make none
unfoldable pub odd : (n : ℕ) → List ℕ
odd zero = []
odd (suc n) = 0 ∷ []

unfoldable pub table_words : (bytes : List ℕ) → List ℕ
unfolding words_of odd
table_words bytes = words_of bytes ++ odd (length bytes % 4)

abbrev pub table_packed : (ρ : ℕ) (bytes : List ℕ) → List ℕ
table_packed ρ bytes = packed ρ (kept (length bytes) (table_words bytes))

-- how many bytes a call wrote, and whether the stream holds the input
abbrev pub size_of : Result ℕ TooLarge → ℕ
size_of (Ok n) = n
size_of (Err e) = e.size

abbrev pub is_held : Result ℕ TooLarge → Bool
is_held (Ok n) = true
is_held (Err e) = false
