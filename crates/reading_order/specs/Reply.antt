-- What a call replies and leaves in its slices, for every input, and what that says of the system (document 02, wish 9).
use Rattle.std.specs.Prelude.{ℕ, Option, Some, None, Result, Ok, Err, Bool, List, ltb, length, take}
use Rattle.std.proofs.Math.Bool.{true, false}
use Rattle.table.specs.Code.{code}
use Rattle.calculus.specs.Estimate.{estimate}
use Rattle.calculus.specs.Answer.{Answer, verdict, standing_bound, answer, work_after}
use Rattle.calculus.specs.Answer as answers
use Rattle.calls.specs.Faults.{fault_number, fault_place}
use Rattle.solver.specs.Ceiling.{under, answer_within, estimate_within}
use Rattle.graph.specs.declared.Arrangement.{Arrangement}
use Rattle.graph.specs.declared.Arrangement.TheVariants.{Ordered, Looped}
use Rattle.graph.specs.Answer.{written, starting_with}
use Rattle.graph.specs.Answer as graph
use Rattle.graph.specs.Order.{Order}
use Rattle.graph.specs.Loop.{Shortest}
use Rattle.reading_order.specs.declared.OrderFault.{OrderFault}
use Rattle.reading_order.specs.declared.OrderFault.TheVariants.{Call, Short, Facts}
use Rattle.reading_order.specs.Relation.{sender_rows, live_blocks}

-- a refusal's number and place; or that there is an order, or else a loop, of so many positions
pub data Reply : Type 0 where
  refused : (number place : ℕ) → Reply
  ordered looped : (count : ℕ) → Reply

-- the number and place of each refusal, and what the others say
unfoldable pub reply_of : Result Arrangement OrderFault → Reply
unfolding fault_number fault_place
reply_of (Err (Call f)) = refused (fault_number f) (fault_place f)
reply_of (Err Short) = refused 51 0
reply_of (Err (Facts n)) = refused 23 n
reply_of (Ok (Ordered count)) = ordered count
reply_of (Ok (Looped count)) = looped count

unfoldable pub arranged : Option Arrangement → Reply
arranged None = refused 51 0
arranged (Some (Ordered count)) = ordered count
arranged (Some (Looped count)) = looped count

module _ (ws : List ℕ) (ρ : ℕ) where
  -- the relation of the least estimate, and the blocks that are live in it
  abbrev pub rows : List ℕ
  rows = sender_rows (code ws) (estimate (code ws) ρ)

  abbrev pub live : ℕ
  live = live_blocks (code ws) (estimate (code ws) ρ)

  -- a slice of so many positions is shorter than the number of blocks
  abbrev pub short : ℕ → Bool
  short room = ltb room (length (code ws).blocks)

  -- ---- the reply

  -- where no number before 23 refuses the call
  unfoldable pub reply_within : (room : ℕ) → Answer → Reply
  unfolding arranged graph.answer
  reply_within room (answers.refused number place) = refused number place
  reply_within room (verdict v) = arranged (graph.answer rows live room)

  -- document 01's numbers to 22, then 51, then 23 at the ceiling n
  unfoldable pub reply : (n est work room : ℕ) → Reply
  unfolding answer under reply_within
  reply n est work room =
      elim (answer ws ρ standing_bound est work) [
        | answers.refused number place ↦ refused number place
        | verdict v ↦ elim (short room) [ true ↦ refused 51 0 | false ↦ reply_within room (under n (verdict v)) ]
      ]

  -- ---- the slices after the call, from those before it

  -- 51 leaves the estimate and the work slice as they were; else they are as an analysis under the ceiling leaves them
  unfoldable pub estimate_after_order : (n : ℕ) (est work positions : List ℕ) → List ℕ
  unfolding estimate_within
  estimate_after_order n est work positions = elim (short (length positions)) [ true ↦ est | false ↦ estimate_within ws ρ n est work ]

  unfoldable pub work_after_order : (est work positions : List ℕ) → List ℕ
  unfolding work_after
  work_after_order est work positions = elim (short (length positions)) [ true ↦ work | false ↦ work_after ws ρ standing_bound est work ]

  -- the order or the loop in the first positions, and the rest untouched; a refusal leaves all
  unfoldable pub positions_after : (n : ℕ) (est work positions : List ℕ) → List ℕ
  unfolding answer_within written graph.answer
  positions_after n est work positions =
      elim (answer_within ws ρ n (length est) (length work)) [
        | answers.refused number place ↦ positions
        | verdict v ↦ starting_with (written rows live (graph.answer rows live (length positions))) positions
      ]

  -- ---- the meaning

  -- what a reply says of the positions that it counts: by the least estimate they are the order, or the first of the shortest loops
  abbrev pub ReplyMeans : Reply → (positions : List ℕ) → Type 0
  ReplyMeans (refused number place) positions = Unit {0}
  ReplyMeans (ordered count) positions = Order rows live (take count positions)
  ReplyMeans (looped count) positions = Shortest rows live (take count positions)
