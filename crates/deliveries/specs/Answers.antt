-- What a call that writes the text of a table answers and leaves: the table's numbers, then 42 where the text has no room.
use Rattle.std.specs.Prelude.{ℕ, true, false, List, ltb, length}
use Rattle.table.specs.Scan.{Outcome, accepted, refused}
use Rattle.listing.specs.Listing.{Answered, done, refusal, left}

-- of the reading of the table, the text, and how many bytes there are for it
unfoldable pub answer_for : Outcome → List ℕ → ℕ → Answered
answer_for (refused n p) text room = refusal n p
answer_for accepted text room = elim (ltb room (length text)) [ true ↦ refusal 42 0 | false ↦ done (length text) ]

-- the bytes of the output slice after the call, from those before it
abbrev pub bytes_after : Outcome → List ℕ → List ℕ → List ℕ
bytes_after o text out = left (answer_for o text (length out)) text out
