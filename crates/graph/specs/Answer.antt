-- What a call answers and writes, and what that says of the relation.
use Rattle.std.specs.Prelude.{ℕ, ◌%◌, ◌^◌, min, true, false, Option, Some, None, List, [], ◌++◌, leb, ltb, length, take, drop}
use Rattle.graph.specs.declared.Arrangement.{Arrangement}
use Rattle.graph.specs.declared.Arrangement.TheVariants.{Ordered, Looped}
use Rattle.graph.specs.Order.{Order}
use Rattle.graph.specs.Loop.{Shortest}
use Rattle.graph.specs.Search.{order_from, loop_length, loop_of}

-- the positions of the relation are those below
abbrev pub places : List ℕ → ℕ
places rows = min 64 (length rows)

-- those of them that are live
abbrev pub alive : List ℕ → ℕ → ℕ
alive rows live = live % 2 ^ places rows

-- an order of all, or else a shortest loop
unfoldable pub answer : List ℕ → (live room : ℕ) → Option Arrangement
unfolding loop_length order_from
answer rows live room =
    elim (ltb room (places rows)) [
      | true ↦ None
      | false ↦
          elim (leb (loop_length rows (alive rows live) (places rows)) (places rows)) [
            | true ↦ Some (Looped (loop_length rows (alive rows live) (places rows)))
            | false ↦ Some (Ordered (length (order_from rows (places rows) (places rows) (alive rows live))))
          ]
    ]

-- the positions that are written
unfoldable pub written : List ℕ → ℕ → Option Arrangement → List ℕ
unfolding loop_of order_from
written rows live None = []
written rows live (Some (Ordered count)) = order_from rows (places rows) (places rows) (alive rows live)
written rows live (Some (Looped count)) = loop_of rows (alive rows live) (places rows) count

-- a list with another in place of its start
abbrev pub starting_with : List ℕ → List ℕ → List ℕ
starting_with new old = new ++ drop (length new) old

-- what an answer says of the positions that it counts
abbrev pub Means : (rows : List ℕ) (live : ℕ) → Option Arrangement → List ℕ → Type 0
Means rows live None positions = Unit {0}
Means rows live (Some (Ordered count)) positions = Order rows live (take count positions)
Means rows live (Some (Looped count)) positions = Shortest rows live (take count positions)
