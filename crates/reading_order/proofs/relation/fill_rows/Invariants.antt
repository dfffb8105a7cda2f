-- `reading_order::relation::fill_rows` meets its contract. The loop's invariant: the rows of the blocks from place t on, put behind what is written,
-- give the whole. Assumes nothing.
use Prim.Native.Nat.{ℕ}
use mathlib.Core.List.{List, map}
use lib.ListN.{drop}
use Rattle.table.specs.Code.{Code}
use Rattle.rows.specs.Laid.{LaidOut}
use Rattle.graph.proofs.Writing.{Partly}
use Rattle.reading_order.specs.Relation.{senders_to}
use Rattle.reading_order.proofs.relation.fill_rows.Given as goal

abbrev pub rows_from : Code → (est blocks : List ℕ) → ℕ → List ℕ
rows_from c est blocks t = map (senders_to c est blocks) (drop t blocks)

abbrev pub invariant-loop-t : goal.invariant-loop-t
invariant-loop-t l =
    ((c : Code) → LaidOut c l.l → Partly l.initial.rows (rows_from c l.est l.blocks 0) l.rows l.t (rows_from c l.est l.blocks l.t))
