-- The productions of numbers, by their first byte.
-- Assumes nothing.
use Prim.Native.Nat.{ℕ}
use mathlib.Core.Path.{◌≡◌}
use mathlib.Core.Bool.{true, false, ◌||◌}
use mathlib.Core.List.{List}
use lib.Dec.{eqb}
use Rattle.json_text.specs.Bytes.{head, tail, rest, then}
use Rattle.json_text.specs.Numbers.{is_digit, digits, some_digits, minus, int, frac, exp, number}

module _ (bs : List ℕ) where
  pub digits-yes : is_digit (head bs) ≡ true → some_digits bs ≡ rest (digits (tail bs))
  unfolding some_digits
  digits-yes e = rw (e, some_digits)

  pub minus-no : eqb (head bs) 45 ≡ false → minus bs ≡ bs
  unfolding minus
  minus-no e = rw (e, minus)

  pub int-more : eqb (head bs) 48 ≡ false → int bs ≡ some_digits bs
  unfolding int
  int-more e = rw (e, int)

  pub frac-no : eqb (head bs) 46 ≡ false → frac bs ≡ rest bs
  unfolding frac
  frac-no e = rw (e, frac)

  pub exp-no : (eqb (head bs) 101 || eqb (head bs) 69) ≡ false → exp bs ≡ rest bs
  unfolding exp
  exp-no e = rw (e, exp)

  -- one part behind another
  pub number-whole : (cs ds : List ℕ) → int (minus bs) ≡ rest cs → frac cs ≡ rest ds → number bs ≡ exp ds
  unfolding number then
  number-whole cs ds e q = rw (e, q)
