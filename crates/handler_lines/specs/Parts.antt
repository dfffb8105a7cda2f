-- The parts of a report's line on a handler: which it is, and what tells it from another with its name.
use Rattle.std.specs.Prelude.{ℕ, ◌+◌, List, ◌++◌, get_or}
use Rattle.table.specs.Words.{argument}
use Rattle.text.specs.Text.{bytes, decimal, set}

-- the position, from 0, and the name
unfoldable pub head : (position name : ℕ) → List ℕ
head position name = (bytes "handler " ++ decimal position) ++ (bytes " name " ++ decimal name)

-- the line of a listing that has this word
abbrev pub line_of : (word : ℕ) → ℕ
line_of word = word + 1

-- the line of its first word, and its permissions
unfoldable pub tail : (line permissions : ℕ) → List ℕ
tail line permissions = (bytes "  line " ++ decimal line) ++ (bytes " permissions " ++ set permissions) ++ bytes "\n"

-- of the block that starts at b
module _ (ws : List ℕ) where
  abbrev pub head_at : (b position : ℕ) → List ℕ
  head_at b position = head position (argument (get_or ws b 0))

  abbrev pub tail_at : (b : ℕ) → List ℕ
  tail_at b = tail (line_of b) (argument (get_or ws (b + 1) 0))
