-- The line that says what a call for an order of reading replied (document 02, wish 9): `order 0 2 1`, `loop 0 2`, or the line of its refusal.
use Rattle.std.specs.Prelude.{ℕ, ◌+◌, ◌*◌, true, false, List, [], ◌∷◌, ◌++◌, ltb, length, take, drop}
use Rattle.text.specs.Text.{bytes, decimal}
use Rattle.report.specs.Lines.{refusal_line}
use Rattle.reading_order.specs.Reply.{Reply, refused, ordered, looped}

-- each position behind a space
unfoldable pub spaced : List ℕ → List ℕ
spaced [] = []
spaced (p ∷ ps) = (bytes " " ++ decimal p) ++ spaced ps

unfoldable pub line : (word positions : List ℕ) → List ℕ
unfolding spaced
line word positions = (word ++ spaced positions) ++ bytes "\n"

unfoldable pub reply_text : Reply → (positions : List ℕ) → List ℕ
unfolding line refusal_line
reply_text (refused number place) positions = refusal_line number place
reply_text (ordered count) positions = line (bytes "order") (take count positions)
reply_text (looped count) positions = line (bytes "loop") (take count positions)

-- ---- lent bytes

-- room for every line with so many positions
abbrev pub room : (positions : ℕ) → ℕ
room positions = 96 + 21 * positions

-- how many bytes are written into a slice of so many: none where it has less room
unfoldable pub text_size : (positions : ℕ) → List ℕ → (size : ℕ) → ℕ
text_size positions text size = elim (ltb size (room positions)) [ true ↦ 0 | false ↦ length text ]

-- the bytes of the slice after the call, from those before it
unfoldable pub text_after : (positions : ℕ) → List ℕ → List ℕ → List ℕ
text_after positions text out = elim (ltb (length out) (room positions)) [ true ↦ out | false ↦ text ++ drop (length text) out ]
