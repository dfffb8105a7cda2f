-- The listing of a system, what the writer answers and what the reader answers (document 02, wish 1).
use Rattle.std.specs.Prelude.{ℕ, zero, suc, ◌*◌, ◌≡◌, ◌≢◌, Option, None, Some, Bool, true, false, List, [], ◌∷◌, ◌++◌, map, eqb, ltb, length, drop, replicate}
use Rattle.table.specs.Scan.{Task, head, name, perms, guard, term, accepted, refused, first_of, narrow_reading}
use Rattle.table.specs.Code.{tasks}
use Rattle.listing.specs.Spelling.{space, feed, spelled, line_word}

-- what a call answers: so many bytes or words are written, or a number and a place
pub data Answered : Type 0 where
  done : (count : ℕ) → Answered
  refusal : (number place : ℕ) → Answered

-- how the code answers a number of which 0 stands for nothing: a word, or the number of a line
abbrev pub NoneAtZero : ℕ → Option ℕ → Type 0
NoneAtZero n None = n ≡ 0
NoneAtZero n (Some v) = (v ≡ n) × (v ≢ 0)

-- the most bytes of a listing
abbrev pub most : ℕ
most = 65536

-- what a call leaves in the output slice, where it writes `l` if it accepts
unfoldable pub left : Answered → List ℕ → List ℕ → List ℕ
left (done n) l out = l ++ drop n out
left (refusal n p) l out = out

unfoldable pub tested : List (Bool × ℕ) → ℕ → Answered
tested ts n = elim (first_of ts) [ zero ↦ done n | suc k ↦ refusal (suc k) 0 ]

-- ---- writing

-- word 0 and block words are not indented, a body has depth 1
unfoldable pub depth_of : Task → ℕ
depth_of (head n) = 0
depth_of name = 0
depth_of (perms n) = 0
depth_of guard = 0
depth_of (term d h s) = d

unfoldable pub depths : List ℕ → List ℕ
unfolding depth_of
depths ws = map depth_of (tasks ws)

-- the line of a word at a depth
abbrev pub indented : ℕ → ℕ → List ℕ
indented d w = replicate (2 * d) space ++ spelled w

unfoldable pub lines : List ℕ → List ℕ → List ℕ
lines [] ws = []
lines (d ∷ ds) [] = []
lines (d ∷ ds) (w ∷ ws) = indented d w ++ lines ds ws

-- the one text of a system
unfoldable pub listing : List ℕ → List ℕ
unfolding depths lines
listing ws = lines (depths ws) ws

-- the writer's answer, where the output slice has `room` bytes
unfoldable pub written : List ℕ → ℕ → Answered
unfolding tested listing
written ws room =
    elim (narrow_reading ws) [
      | refused n p ↦ refusal n p
      | accepted ↦ tested ((ltb most (length (listing ws)), 41) ∷ (ltb room (length (listing ws)), 42) ∷ []) (length (listing ws))
    ]

-- the bytes of the output slice after the call, from those before it
abbrev pub text_after : List ℕ → List ℕ → List ℕ
text_after ws out = left (written ws (length out)) (listing ws) out

-- ---- reading

unfoldable pub onto : ℕ → List (List ℕ) → List (List ℕ)
onto b [] = (b ∷ []) ∷ []
onto b (l ∷ ls) = (b ∷ l) ∷ ls

-- a text cut behind each line feed
unfoldable pub cut : List ℕ → List (List ℕ)
unfolding onto
cut [] = []
cut (b ∷ bs) = elim (eqb b feed) [ true ↦ (b ∷ []) ∷ cut bs | false ↦ onto b (cut bs) ]

-- the number of leading spaces
unfoldable pub indent : List ℕ → ℕ
indent [] = 0
indent (b ∷ bs) = elim (eqb b space) [ true ↦ suc (indent bs) | false ↦ 0 ]

-- the word of a line, leading spaces aside
unfoldable pub word_in : List ℕ → ℕ
unfolding indent
word_in l = line_word (drop (indent l) l)

unfoldable pub words_of : List ℕ → List ℕ
unfolding cut word_in
words_of text = map word_in (cut text)

unfoldable pub indents : List ℕ → List ℕ
unfolding cut indent
indents text = map indent (cut text)

-- the number of the first line that is how no word is spelled, counted from n on, and 0 where there is none
unfoldable pub misspelled : ℕ → List ℕ → ℕ
misspelled n [] = 0
misspelled n (w ∷ ws) = elim w [ zero ↦ n | suc v ↦ misspelled (suc n) ws ]

-- the same for a line whose leading spaces are not two for each depth
unfoldable pub misplaced : ℕ → List ℕ → List ℕ → ℕ
misplaced n [] is = 0
misplaced n (d ∷ ds) [] = 0
misplaced n (d ∷ ds) (i ∷ is) = elim (eqb i (2 * d)) [ true ↦ misplaced (suc n) ds is | false ↦ n ]

-- the words ws behind the table's numbers, with the leading spaces of their lines
unfoldable pub placed : List ℕ → List ℕ → ℕ → Answered
unfolding misplaced depths tested
placed ws is room =
    elim (misplaced 1 (depths ws) is) [
      | zero ↦ tested ((ltb room (length ws), 42) ∷ []) (length ws)
      | suc n ↦ refusal 40 (suc n)
    ]

unfoldable pub tabled : List ℕ → List ℕ → ℕ → Answered
unfolding placed
tabled ws is room = elim (narrow_reading ws) [ refused n p ↦ refusal n p | accepted ↦ placed ws is room ]

unfoldable pub spelt : List ℕ → List ℕ → ℕ → Answered
unfolding misspelled tabled
spelt ws is room = elim (misspelled 1 ws) [ zero ↦ tabled ws is room | suc n ↦ refusal 40 (suc n) ]

-- the reader's answer, where the output slice has `room` words
unfoldable pub read_as : List ℕ → ℕ → Answered
unfolding spelt words_of indents
read_as text room = elim (ltb most (length text)) [ true ↦ refusal 41 0 | false ↦ spelt (words_of text) (indents text) room ]

-- the words of the output slice after the call, from those before it
abbrev pub words_after : List ℕ → List ℕ → List ℕ
words_after text out = left (read_as text (length out)) (words_of text) out
