-- How a word is spelled, and the word that a line spells.
use Rattle.std.specs.Prelude.{ℕ, zero, suc, ◌+◌, ◌-◌, ◌*◌, ◌/◌, ◌%◌, ◌^◌, Bool, true, false, ◌&&◌, List, [], ◌∷◌, ◌++◌, eqb, ltb, length, drop, get_or}
use Rattle.table.specs.Words.{kind, argument, word_of}
use Rattle.text.specs.Text.{decimal, set}
use Rattle.listing.specs.declared.keywords.Style.{Style}
use Rattle.listing.specs.declared.keywords.Style.TheVariants.{Omitted, Hex, Whole, Signed}
use Rattle.listing.specs.Keywords.{Entry, entries, entry_of, used}

abbrev pub space : ℕ
space = 32

abbrev pub feed : ℕ
feed = 10

abbrev pub minus : ℕ
minus = 45

-- a number of 24 bits, those from 2^23 on being negative
unfoldable pub signed_decimal : ℕ → List ℕ
signed_decimal a = elim (ltb a (2 ^ 23)) [ true ↦ decimal a | false ↦ minus ∷ decimal (2 ^ 24 - a) ]

-- the argument with the space before it
unfoldable pub spelled_argument : Style → ℕ → List ℕ
unfolding signed_decimal
spelled_argument Omitted a = []
spelled_argument Hex a = space ∷ set a
spelled_argument Whole a = space ∷ decimal a
spelled_argument Signed a = space ∷ signed_decimal a

unfoldable pub line_of : Entry → ℕ → List ℕ
unfolding spelled_argument
line_of e a = e.keyword ++ spelled_argument e.style a ++ feed ∷ []

-- the line of a word, without leading spaces and with its line feed
unfoldable pub spelled : ℕ → List ℕ
unfolding entry_of line_of
spelled w = line_of (entry_of (kind w)) (argument w)

-- ---- the one word that a line can be the spelling of

unfoldable pub prefix : List ℕ → List ℕ → Bool
prefix [] l = true
prefix (a ∷ xs) [] = false
prefix (a ∷ xs) (b ∷ bs) = eqb a b && prefix xs bs

-- the first kind from k on whose keyword a line starts with, and 0 where there is none
unfoldable pub kind_from : ℕ → List Entry → List ℕ → ℕ
unfolding used prefix
kind_from k [] l = 0
kind_from k (e ∷ es) l = elim (used e && prefix e.keyword l) [ true ↦ k | false ↦ kind_from (suc k) es l ]

unfoldable pub guessed_kind : List ℕ → ℕ
unfolding kind_from entries
guessed_kind l = kind_from 0 entries l

-- the digit that a byte stands for, where it stands for one: `0` to `9`, `a` to `f`
abbrev pub digit_of : ℕ → ℕ
digit_of b = b % 16 + 9 * (b / 64)

-- the number of the digits up to the line feed, modulo 2^24
unfoldable pub folded : (base v : ℕ) → List ℕ → ℕ
folded base v [] = v
folded base v (b ∷ bs) = elim (eqb b feed) [ true ↦ v | false ↦ folded base ((v * base + digit_of b) % 2 ^ 24) bs ]

-- the argument, from what follows the keyword
unfoldable pub guessed_argument : Style → List ℕ → ℕ
unfolding folded
guessed_argument Omitted l = 0
guessed_argument Hex l = folded 16 0 (drop 1 l)
guessed_argument Whole l = folded 10 0 (drop 1 l)
guessed_argument Signed l =
    elim (eqb (get_or l 1 0) minus) [ true ↦ (2 ^ 24 - folded 10 0 (drop 2 l)) % 2 ^ 24 | false ↦ folded 10 0 (drop 1 l) ]

unfoldable pub guessed : ℕ → List ℕ → ℕ
unfolding entry_of guessed_argument
guessed k l = word_of k (guessed_argument (entry_of k).style (drop (length (entry_of k).keyword) l))

unfoldable pub same : List ℕ → List ℕ → Bool
same [] [] = true
same [] (b ∷ bs) = false
same (a ∷ xs) [] = false
same (a ∷ xs) (b ∷ bs) = eqb a b && same xs bs

-- the word that a line spells, and 0 where it is how no word is spelled: a line is right exactly if the one word that it can be is
-- spelled so
unfoldable pub spells : List ℕ → ℕ → ℕ
unfolding guessed same spelled
spells l k =
    elim k [
      | zero ↦ 0
      | suc j ↦ elim (same (spelled (guessed (suc j) l)) l) [ true ↦ guessed (suc j) l | false ↦ 0 ]
    ]

unfoldable pub line_word : List ℕ → ℕ
unfolding guessed_kind spells
line_word l = spells l (guessed_kind l)
