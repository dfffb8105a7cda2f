-- The text that says for each send of a system and each block whether the send is delivered to it, and if not, why (document 02, wish 2).
use Rattle.std.specs.Prelude.{ℕ, suc, ◌+◌, ◌-◌, eqb, get_or}
use Rattle.std.proofs.Math.Bool.{true, false}
use mathlib.Core.List.{List, [], ◌∷◌, ◌++◌}
use Rattle.delivery.specs.declared.Delivery.{Delivery}
use Rattle.delivery.specs.declared.Delivery.TheVariants as deliveries
use Rattle.delivery.specs.Delivery.{judged}
use Rattle.table.specs.Words.{kind, argument}
use Rattle.table.specs.Scan.{reading}
use Rattle.table.specs.Item.{handler_at}
use Rattle.table.specs.Links.{block_at}
use Rattle.text.specs.Text.{bytes, decimal, set}
use Rattle.listing.specs.Listing.{Answered}
use Rattle.deliveries.specs.Answers.{answer_for, bytes_after}
use Rattle.deliveries.specs.Positions.{counted, each_word}

-- ---- one line

-- a word and a set
abbrev pub field : List ℕ → ℕ → List ℕ
field label s = (label ++ set s) ++ bytes "\n"

unfoldable pub outcome : Delivery → List ℕ
outcome deliveries.OtherName = bytes " other name\n"
outcome (deliveries.ReceiverLacks s) = field (bytes " lacks ") s.bits
outcome (deliveries.SenderLacks s) = field (bytes " needs ") s.bits
outcome deliveries.Delivered = bytes " delivered\n"

-- the word of the send, and the positions of its block and of the receiver
unfoldable pub line : (p from to : ℕ) → Delivery → List ℕ
unfolding outcome
line p from to d =
    (bytes "send " ++ decimal p) ++ (bytes " from " ++ decimal from) ++ (bytes " to " ++ decimal to) ++ outcome d

-- ---- all lines

-- the name that a send to this target is compared with: "Where the send's target is a name word, that name is compared; where it is any
-- other term, each block counts as being named."
unfoldable pub name_for : (target own : ℕ) → ℕ
name_for target own = elim (eqb (kind target) 19) [ true ↦ argument target | false ↦ own ]

module _ (ws : List ℕ) where
  -- the send at p, in the block whose first word is `home`, to the block whose first word is q
  unfoldable pub answer_at : (p home q : ℕ) → Delivery
  unfolding name_for
  answer_at p home q =
      judged (name_for (get_or ws (p + 1) 0) (handler_at ws q).name) (argument (get_or ws p 0)) (handler_at ws home).perms.bits (handler_at ws q)

  -- the line of the send for the word v at q, if a block starts there, which then has the position `to`
  unfoldable pub receiver : (p home from : ℕ) → (q to v : ℕ) → List ℕ
  unfolding line answer_at
  receiver p home from q to v = elim (eqb (kind v) 2) [ true ↦ line p from to (answer_at p home q) | false ↦ [] ]

  -- the lines of a send
  unfoldable pub receivers : (p home from : ℕ) → List ℕ
  unfolding receiver each_word
  receivers p home from = each_word (receiver p home from) 0 0 ws

  -- the lines of a word
  unfoldable pub lines_of : (p home from : ℕ) → (w : ℕ) → List ℕ
  unfolding receivers
  lines_of p home from w = elim (eqb (kind w) 35) [ true ↦ receivers p home from | false ↦ [] ]

  -- the lines of the words vs, which stand from p on, after `count` blocks, the last of them at `home`
  unfoldable pub sends : (p home count : ℕ) → List ℕ → List ℕ
  unfolding lines_of block_at counted
  sends p home count [] = []
  sends p home count (w ∷ vs) = lines_of p home (count - 1) w ++ sends (suc p) (block_at w p home) (counted w count) vs

-- of an accepted table
unfoldable pub text : List ℕ → List ℕ
unfolding sends
text ws = sends ws 0 0 0 ws

-- ---- the call

unfoldable pub written : List ℕ → ℕ → Answered
unfolding text answer_for
written ws room = answer_for (reading ws) (text ws) room

-- the bytes of the output slice after the call, from those before it
abbrev pub text_after : List ℕ → List ℕ → List ℕ
text_after ws out = bytes_after (reading ws) (text ws) out
