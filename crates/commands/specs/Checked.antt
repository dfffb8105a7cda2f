-- What `check` prints of a listing (document 02, wish 1): how many words it has, or its refusal, the line that is wrong and what the number means.
use Rattle.std.specs.Prelude.{ℕ, zero, suc, true, false, List, [], ◌∷◌, ◌++◌, eqb, ltb}
use Rattle.text.specs.Text.{bytes, decimal}
use Rattle.listing.specs.Spelling.{feed}
use Rattle.listing.specs.Listing.{Answered, done, refusal, most, listing, written, words_of, read_as}
use Rattle.report.specs.Lines.{refusal_line}
use Rattle.commands.specs.Meanings.{from_line, sentence}

-- the first line of a text, with a line feed also where it has none
unfoldable pub first_line : List ℕ → List ℕ
first_line [] = feed ∷ []
first_line (b ∷ bs) = elim (eqb b feed) [ true ↦ b ∷ [] | false ↦ b ∷ first_line bs ]

-- the same behind a label and a number; of an empty text nothing
unfoldable pub labelled : (label : List ℕ) (n : ℕ) → List ℕ → List ℕ
unfolding first_line
labelled label n [] = []
labelled label n (b ∷ bs) = (label ++ decimal n) ++ bytes ": " ++ first_line (b ∷ bs)

-- line k, counted from 0, with its number, counted from 1
unfoldable pub shown_line : (label : List ℕ) (k : ℕ) → List ℕ → List ℕ
unfolding from_line labelled
shown_line label k text = labelled label (suc k) (from_line k text)

-- line k as the writer makes it, where the words are a system that has a listing
unfoldable pub right_line : (k : ℕ) (words : List ℕ) → List ℕ
unfolding shown_line
right_line k words = elim (written words most) [ done n ↦ shown_line (bytes "right, line ") k (listing words) | refusal number place ↦ [] ]

-- the number of the line that a refusal is about, 0 where it is about none: the table's numbers stand at words, 40 at a line
unfoldable pub line_of : (number place : ℕ) → ℕ
line_of number place = elim (ltb number 40) [ true ↦ suc place | false ↦ place ]

-- line n as it stands in the text, and as it should
unfoldable pub wrong_line : (n : ℕ) → List ℕ → List ℕ
unfolding shown_line right_line
wrong_line zero text = []
wrong_line (suc k) text = shown_line (bytes "line ") k text ++ right_line k (words_of text)

unfoldable pub checked_text : Answered → List ℕ → List ℕ
unfolding line_of wrong_line
checked_text (done n) text = (bytes "accepted " ++ decimal n) ++ bytes "\n"
checked_text (refusal number place) text = refusal_line number place ++ wrong_line (line_of number place) text ++ sentence number

-- a listing in, what is wrong with it out
unfoldable pub check_text : (input : List ℕ) → List ℕ
unfolding checked_text
check_text input = checked_text (read_as input 1024) input
