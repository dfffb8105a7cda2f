-- Sets of permissions as numbers: permission i is a member where binary digit i is 1 (document 01: "a set has bit i for permission i").
use Rattle.std.specs.Prelude.{ℕ, ◌-◌, ◌/◌, ◌%◌, ◌^◌, Bool, eqb}
use Rattle.std.specs.Int.Bits.{bit_and, bit_or}
use Rattle.std.specs.Int.Count.{count_trailing_zeros}

-- how many permissions there are, and so how many digits a set has
abbrev pub width : ℕ
width = 24

-- i is in s
unfoldable pub member : ℕ → ℕ → Bool
member s i = eqb (s / 2 ^ i % 2) 1

unfoldable pub union : ℕ → ℕ → ℕ
union s t = bit_or s t

-- what is in s and not in t
unfoldable pub difference : ℕ → ℕ → ℕ
difference s t = s - bit_and s t

-- every member of s is in t
unfoldable pub within : ℕ → ℕ → Bool
within s t = eqb (bit_and s t) s

-- the lowest member of s, and 32 for the empty set
unfoldable pub lowest : ℕ → ℕ
unfolding count_trailing_zeros
lowest s = count_trailing_zeros 32 s
