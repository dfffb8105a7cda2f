-- What it means that a text was added to a slice of bytes as far as there is room: the place after it is counted in any case.
use Rattle.std.specs.Prelude.{ℕ, ◌+◌, ◌≤◌, ◌≡◌, List, length}
use Rattle.text.specs.Writing.{Wrote}

pub record Added (before : List ℕ) (at : ℕ) (text after : List ℕ) (next : ℕ) : Type 0 where
  pub ends : next ≡ at + length text
  pub same : length after ≡ length before
  pub bytes : next ≤ length before → Wrote before at text after next
