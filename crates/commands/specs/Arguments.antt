-- The arguments of the program: a command, names and numbers in decimal digits, sets in hexadecimal ones.
use Rattle.std.specs.Prelude.{ℕ, ◌+◌, ◌-◌, ◌*◌, ◌%◌, ◌^◌, true, false, List, [], ◌∷◌, ltb, length, Option, Some, None, MatchOption, ◌≡◌, ◌≤◌, ◌<◌}

-- the digit that a byte is: `0` to `9`, then `a` to `f`; 16 where it is none
unfoldable pub digit : ℕ → ℕ
digit b =
    elim (ltb b 48) [
      | true ↦ 16
      | false ↦ elim (ltb b 58) [
        | true ↦ b - 48
        | false ↦ elim (ltb b 97) [ true ↦ 16 | false ↦ elim (ltb b 103) [ true ↦ b - 87 | false ↦ 16 ] ]
      ]
    ]

-- what is said of the digit of a byte
abbrev pub IsDigit : ℕ → Option ℕ → Type 0
IsDigit b d = MatchOption d (16 ≤ digit b) (λ n. (n ≡ digit b) × (n < 16))

-- digits in a base behind those of n; eight digits stay below 2^32
unfoldable pub folded : (base n : ℕ) → List ℕ → Option ℕ
unfolding digit
folded base n [] = Some n
folded base n (b ∷ bs) = elim (ltb (digit b) base) [ true ↦ folded base ((n * base + digit b) % 2 ^ 32) bs | false ↦ None ]

-- one to eight digits in a base
unfoldable pub value_of : (base : ℕ) → List ℕ → Option ℕ
unfolding folded
value_of base [] = None
value_of base (b ∷ bs) = elim (ltb 8 (length (b ∷ bs))) [ true ↦ None | false ↦ folded base 0 (b ∷ bs) ]
