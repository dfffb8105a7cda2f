-- The text that says for each block of a system who may have sent to it, read from the words of an estimate (document 02, wish 8).
use Rattle.std.specs.Prelude.{ℕ, Bool, ◌&&◌, eqb, get_or}
use mathlib.Core.List.{List, [], ◌∷◌, ◌++◌}
use Rattle.table.specs.Words.{kind, argument}
use Rattle.table.specs.Scan.{reading}
use Rattle.table.specs.Code.{code}
use Rattle.calculus.specs.Elements.{made, opponent_record}
use Rattle.calculus.specs.Constraint.{C}
use Rattle.calculus.specs.Layout.{sets}
use Rattle.text.specs.Text.{bytes, decimal, choice}
use Rattle.listing.specs.Listing.{Answered}
use Rattle.deliveries.specs.Positions.{each_word}
use Rattle.deliveries.specs.Answers.{answer_for, bytes_after}

-- ---- one line

-- those who may have sent, `-` where there is nobody
unfoldable pub or_nobody : List ℕ → List ℕ
or_nobody [] = bytes " -"
or_nobody (x ∷ xs) = x ∷ xs

unfoldable pub line : (position name : ℕ) (senders : List ℕ) → List ℕ
unfolding or_nobody
line position name senders =
    (bytes "handler " ++ decimal position) ++ (bytes " name " ++ decimal name) ++ bytes " from" ++ or_nobody senders ++ bytes "\n"

-- ---- of the table ws and the words est of an estimate; words past their end count as zero

module _ (ws est : List ℕ) where
  -- element v is in C(b)
  abbrev pub holds : (b v : ℕ) → Bool
  holds b v = sets (code ws) est (C b) v

  -- the position of the block that starts with the word v at s, if it may have sent to the block at b
  unfoldable pub sender : (b : ℕ) → (s position v : ℕ) → List ℕ
  unfolding sets
  sender b s position v = choice (eqb (kind v) 2 && holds b (made (code ws) s)) (bytes " " ++ decimal position) []

  abbrev pub sender_at : (b : ℕ) → (s position : ℕ) → List ℕ
  sender_at b s position = sender b s position (get_or ws s 0)

  unfoldable pub opponent : (b : ℕ) → List ℕ
  unfolding sets
  opponent b = choice (holds b opponent_record) (bytes " opponent") []

  -- all blocks that may have sent to the block at b
  abbrev pub blocks : (b : ℕ) → List ℕ
  blocks b = each_word (sender b) 0 0 ws

  -- all who may have sent to it, the opponent last
  unfoldable pub senders : (b : ℕ) → List ℕ
  unfolding sender each_word opponent
  senders b = blocks b ++ opponent b

  -- the line of the block at b, which has this position
  abbrev pub handler_line : (b position : ℕ) → List ℕ
  handler_line b position = line position (argument (get_or ws b 0)) (senders b)

  -- the line of the word w at b, if a block starts there
  unfoldable pub block_line : (b position w : ℕ) → List ℕ
  unfolding line senders
  block_line b position w = choice (eqb (kind w) 2) (handler_line b position) []

  abbrev pub line_at : (b position : ℕ) → List ℕ
  line_at b position = block_line b position (get_or ws b 0)

  -- of an accepted table
  unfoldable pub text : List ℕ
  unfolding block_line each_word
  text = each_word block_line 0 0 ws

  -- ---- the call

  unfoldable pub written : ℕ → Answered
  unfolding text answer_for
  written room = answer_for (reading ws) text room

  -- the bytes of the output slice after the call, from those before it
  abbrev pub text_after : List ℕ → List ℕ
  text_after out = bytes_after (reading ws) text out
