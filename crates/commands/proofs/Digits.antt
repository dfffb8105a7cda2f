-- Laws of the arguments: a digit by the ranges of bytes, and digits one after the other.
use Prim.Native.Nat.{ℕ, ◌+◌, ◌-◌, ◌*◌, ◌%◌, ◌^◌, ◌<◌, ◌≤◌}
use mathlib.Core.Path.{◌≡◌, refl}
use mathlib.Core.List.{List, [], ◌∷◌}
use native.Mathlib.Numerals.{add-one}
use native.Mathlib.Omega.{arith}
use borrow.Author.Tests.{lt-ltb, le-ltb}
use Rattle.std.specs.Prelude.{Some, None}
use lib.ListN.{length, get_or, drop, drop_of_length-le}
use lib.Seq.{drop-cons}
use Rattle.commands.specs.Arguments.{digit, folded, value_of}

module _ (b : ℕ) where
  pub digit_low : b < 48 → digit b ≡ 16
  unfolding digit
  digit_low h = rw (digit, lt-ltb b 48 h)

  module _ (l : 48 ≤ b) where
    pub digit-decimal : b < 58 → digit b ≡ b - 48
    unfolding digit
    digit-decimal h = rw (digit, le-ltb b 48 l, lt-ltb b 58 h)

    module _ (m : 58 ≤ b) where
      pub digit-between : b < 97 → digit b ≡ 16
      unfolding digit
      digit-between h = rw (digit, le-ltb b 48 l, le-ltb b 58 m, lt-ltb b 97 h)

      module _ (n : 97 ≤ b) where
        pub digit-letter : b < 103 → digit b ≡ b - 87
        unfolding digit
        digit-letter h = rw (digit, le-ltb b 48 l, le-ltb b 58 m, le-ltb b 97 n, lt-ltb b 103 h)

        pub digit-high : 103 ≤ b → digit b ≡ 16
        unfolding digit
        digit-high h = rw (digit, le-ltb b 48 l, le-ltb b 58 m, le-ltb b 97 n, le-ltb b 103 h)

module _ (base n : ℕ) (l : List ℕ) (i : ℕ) where
  pub folded-end : length l ≤ i → folded base n (drop i l) ≡ Some n
  unfolding folded
  folded-end h = rw (drop_of_length-le l h, folded)

  module _ (h : i < length l) where
    pub folded-digit : digit (get_or l i 0) < base
        → folded base n (drop i l) ≡ folded base ((n * base + digit (get_or l i 0)) % 2 ^ 32) (drop (i + 1) l)
    unfolding folded
    folded-digit d = rw (add-one, drop-cons l i 0 h, folded, lt-ltb (digit (get_or l i 0)) base d)

    pub folded-other : base ≤ digit (get_or l i 0) → folded base n (drop i l) ≡ None
    unfolding folded
    folded-other d = rw (drop-cons l i 0 h, folded, le-ltb (digit (get_or l i 0)) base d)

pub value_none : (base : ℕ) (l : List ℕ) → length l ≡ 0 → value_of base l ≡ None
unfolding value_of
value_none base [] h = refl
value_none base (b ∷ bs) h = absurd (omega arith)

pub value-long : (base : ℕ) (l : List ℕ) → 8 < length l → value_of base l ≡ None
unfolding value_of
value-long base [] h = refl
value-long base (b ∷ bs) h = rw (value_of, lt-ltb 8 (length (b ∷ bs)) h)

pub value-short : (base : ℕ) (l : List ℕ) → (length l ≡ 0 → ⊥) → length l ≤ 8 → value_of base l ≡ folded base 0 l
unfolding value_of
value-short base [] n h = absurd (n refl)
value-short base (b ∷ bs) n h = rw (value_of, le-ltb 8 (length (b ∷ bs)) h)
