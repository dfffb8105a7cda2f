-- A relation between positions, given as rows of bits and a set of live positions: row t has bit s where s may send to t.
-- What a row says of a position that is not live counts for nothing.
use Rattle.std.specs.Prelude.{ℕ, ◌<◌, List, T, length, get_or}
use Rattle.permset.specs.Sets.{member}

-- p is live: it has a row, and it is in the set
abbrev pub Live : (rows : List ℕ) (live p : ℕ) → Type 0
Live rows live p = (p < length rows) × T (member live p)

-- s may send to t
pub record Sends (rows : List ℕ) (live s t : ℕ) : Type 0 where
  pub sender : Live rows live s
  pub receiver : Live rows live t
  pub bit : T (member (get_or rows t 0) s)
