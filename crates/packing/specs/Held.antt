-- Words at the start of a slice of 256, where there are no more.
use Rattle.std.specs.Prelude.{ℕ, ◌≤◌, ◌<◌, ◌≡◌, List, length, take, Option, Some, None}

-- either so many of them stand there, or there are more than 256
abbrev pub Held : (all slice : List ℕ) → Option ℕ → Type 0
Held all slice (Some n) = (n ≤ 256) × (take n slice ≡ all)
Held all slice None = 256 < length all
