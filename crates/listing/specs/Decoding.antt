-- What the reader has of a text before the table is looked at.
use Rattle.std.specs.Prelude.{ℕ, suc, ◌+◌, ◌<◌, ◌≤◌, ◌≡◌, true, false, ◌⊎◌, List, [], ◌∷◌, eqb, length, take, drop, Result, Ok, Err}
use Rattle.listing.specs.declared.read.Lines.{Lines}
use Rattle.listing.specs.declared.Refusal.{Refusal}
use Rattle.listing.specs.declared.Refusal.TheVariants.{Line}
use Rattle.listing.specs.Spelling.{feed}
use Rattle.listing.specs.Listing.{cut, words_of, indents, misspelled}

-- the length of the first line with its line feed
unfoldable pub line_size : List ℕ → ℕ
line_size [] = 0
line_size (b ∷ bs) = elim (eqb b feed) [ true ↦ 1 | false ↦ suc (line_size bs) ]

-- the first n lines, which end at the byte `at`, spell words
pub record Taken (text : List ℕ) (n at : ℕ) (words spaces : List ℕ) : Type 0 where
  pub inside : at ≤ length text
  pub rest : cut (drop at text) ≡ drop n (cut text)
  pub fine : misspelled 1 (words_of text) ≡ misspelled (n + 1) (drop n (words_of text))
  pub count : n ≤ length (cut text)
  pub read : take n words ≡ take n (words_of text)
  pub indented : take n spaces ≡ take n (indents text)

-- these lines are taken: all, or the first 1,024
abbrev pub AreTaken : List ℕ → Lines → List ℕ → List ℕ → Type 0
AreTaken text lines words spaces =
    Taken text lines.count lines.end words spaces × (lines.count ≤ 1024) × ((length text ≤ lines.end) ⊎ (lines.count ≡ 1024))

-- the answer: the lines that are taken, or the first one that spells no word
abbrev pub DecodedAs : List ℕ → Result Lines Refusal → List ℕ → List ℕ → Type 0
DecodedAs text (Ok lines) words spaces = AreTaken text lines words spaces
DecodedAs text (Err r) words spaces = (n : ℕ) × (r ≡ Line n) × (misspelled 1 (words_of text) ≡ n) × (0 < n)
