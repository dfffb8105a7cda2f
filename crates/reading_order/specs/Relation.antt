-- Who may send to whom, by position, as an estimate says it (document 02, wishes 8 and 9): the senders' set of a block is the value set of its first
-- word. The opponent's element stands for no position.
use Rattle.std.specs.Prelude.{ℕ, ◌+◌, ◌*◌, ◌<◌, Bool, true, false, T, length, get_or}
use mathlib.Core.List.{List, [], ◌∷◌, map}
use Rattle.table.specs.Code.{Code}
use Rattle.calculus.specs.Elements.{made}
use Rattle.calculus.specs.Constraint.{C, L, Sets}
use Rattle.calculus.specs.Layout.{sets}

-- ---- of blocks by their positions, in the sets e

-- the first word of the block at a position
abbrev pub block_at : Code → ℕ → ℕ
block_at c p = get_or c.blocks p 0

abbrev pub LiveAt : Code → Sets → ℕ → Type 0
LiveAt c e p = (p < length c.blocks) × T (e (L (block_at c p)) 0)

-- both are live, and s is among the senders of t
pub record MaySend (c : Code) (e : Sets) (s t : ℕ) : Type 0 where
  pub sender : LiveAt c e s
  pub receiver : LiveAt c e t
  pub element : T (e (C (block_at c t)) (made c (block_at c s)))

-- ---- the same as rows of digits, from the words of an estimate (proofs/Meaning.antt: it is the same)

unfoldable pub digit : Bool → ℕ
digit true = 1
digit false = 0

-- the set of the places in a list whose numbers have the property q
unfoldable pub places_with : (q : ℕ → Bool) → List ℕ → ℕ
unfolding digit
places_with q [] = 0
places_with q (b ∷ bs) = digit (q b) + 2 * places_with q bs

module _ (c : Code) (est : List ℕ) where
  -- of the blocks bs, by their places, those that may have sent to the block at b
  unfoldable pub senders_to : (bs : List ℕ) (b : ℕ) → ℕ
  unfolding places_with sets
  senders_to bs b = places_with (λ s. sets c est (C b) (made c s)) bs

  -- those that are live
  unfoldable pub live_among : (bs : List ℕ) → ℕ
  unfolding places_with sets
  live_among bs = places_with (λ b. sets c est (L b) 0) bs

  -- the relation, a row for each block in turn, and the live blocks
  unfoldable pub sender_rows : List ℕ
  unfolding senders_to
  sender_rows = map (senders_to c.blocks) c.blocks

  unfoldable pub live_blocks : ℕ
  unfolding live_among
  live_blocks = live_among c.blocks
