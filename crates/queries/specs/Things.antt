-- The things that a value set has of a mask, in order.
use Rattle.std.specs.Prelude.{ℕ, ◌+◌, ◌*◌, ◌/◌, ◌%◌, ◌<◌, ◌≤◌, ◌≡◌, Bool, true, false, List, length, get_or}
use Rattle.std.specs.Int.Bits.{bit_and}
use Rattle.permset.specs.Sets.{member}
use Rattle.rows.specs.declared.layout.Layout.{Layout}

-- the word k of the row at `at` and of the mask at `to`, in common
abbrev pub common : List ℕ → List ℕ → (at to k : ℕ) → ℕ
common est masks at to k = bit_and (get_or est (at + k) 0) (get_or masks (to + k) 0)

-- the thing f, whose digit stands f places after the first `lead` words, is in the row and in the mask
abbrev pub both : List ℕ → List ℕ → (lead at to f : ℕ) → Bool
both est masks lead at to f = member (common est masks at to (lead + f / 32)) (f % 32)

-- r is the next such thing, from `from` on
pub record Next (est masks : List ℕ) (lead at to size from r : ℕ) : Type 0 where
  pub later : from ≤ r
  pub none : (f : ℕ) → from ≤ f → f < r → both est masks lead at to f ≡ false
  pub found : r < size → both est masks lead at to r ≡ true

-- what a search for things is handed: the row r and the mask m are inside, and a row has a digit for each word of the table
pub record Searched (l : Layout) (est masks : List ℕ) (r m : ℕ) : Type 0 where
  pub size : l.size ≤ 1024
  pub wide : l.size + 32 * l.lead ≤ 32 * l.row
  pub most : l.row ≤ 36
  pub row : r * l.row + l.row ≤ length est
  pub mask : m * l.row + l.row ≤ length masks
