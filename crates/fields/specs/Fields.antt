-- A number made of fields side by side, and what is read from so many of its bits.
use Rattle.std.specs.Prelude.{ℕ, ◌+◌, ◌*◌, ◌/◌, ◌%◌, ◌^◌, ◌<◌, ◌≡◌, List, [], ◌∷◌}

-- so many bits, and the number that stands in them
pub record Field : Type 0 where
  pub width : ℕ
  pub value : ℕ

abbrev pub field : (width value : ℕ) → Field
field w v = record { width = w; value = v }

-- the first field in the lowest bits
abbrev pub packed : List Field → ℕ
packed [] = 0
packed (f ∷ fs) = f.value + 2 ^ f.width * packed fs

-- so many bits from a place on: `number >> at & (2^width - 1)` in C
abbrev pub bits : (at width number : ℕ) → ℕ
bits at width n = n / 2 ^ at % 2 ^ width

-- each value has room in its bits
abbrev pub Fit : List Field → Type 0
Fit [] = Unit {0}
Fit (f ∷ fs) = (f.value < 2 ^ f.width) × Fit fs

-- each field is read back from its bits, where the first one starts at a place
abbrev pub ReadBack : (at : ℕ) → List Field → (number : ℕ) → Type 0
ReadBack at [] n = Unit {0}
ReadBack at (f ∷ fs) n = (bits at f.width n ≡ f.value) × ReadBack (at + f.width) fs n
