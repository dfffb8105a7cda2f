-- The lines of a text, counted from 0.
use Rattle.std.specs.Prelude.{ℕ, zero, suc, ◌-◌, ◌≤◌, ◌≡◌, true, false, List, [], ◌∷◌, eqb, length, drop}
use Rattle.listing.specs.Spelling.{feed}
use Rattle.listing.specs.Decoding.{line_size}

-- a text from line k on
unfoldable pub from_line : ℕ → List ℕ → List ℕ
from_line zero text = text
from_line (suc k) text = from_line k (drop (line_size text) text)

-- the bytes before the first line feed
unfoldable pub bare : List ℕ → List ℕ
bare [] = []
bare (b ∷ bs) = elim (eqb b feed) [ true ↦ [] | false ↦ b ∷ bare bs ]

-- line k without its line feed, nothing behind the last one
unfoldable pub bare_line : ℕ → List ℕ → List ℕ
unfolding from_line bare
bare_line k text = bare (from_line k text)

-- the place where line k starts, the end of the text where there is none
pub record Starts (text : List ℕ) (k place : ℕ) : Type 0 where
  pub rest : drop place text ≡ from_line k text
  pub inside : place ≤ length text

-- the bytes from `start` to `stop` are those before the line feed
pub record Stops (text : List ℕ) (start stop : ℕ) : Type 0 where
  pub size : length (bare (drop start text)) ≡ stop - start
  pub after : start ≤ stop
  pub inside : stop ≤ length text
