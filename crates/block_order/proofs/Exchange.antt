-- Two neighbouring stretches of numbers change places.
use Prim.Native.Nat.{ℕ, ◌+◌, ◌-◌, ◌≤◌, ◌<◌}
use mathlib.Core.Path.{◌≡◌, ap, ◌∙◌}
use mathlib.Core.Bool.{true, false}
use native.Mathlib.Decide.{dec_lt}
use native.Mathlib.Omega.{arith}
use borrow.Author.Tests.{lt-ltb, le-ltb}
use lib.Dec.{ltb}

-- of the m numbers from `at` on and the n behind them
unfoldable pub exchange : (at m n : ℕ) → ℕ → ℕ
exchange at m n q =
    elim (ltb q at) [
      | true ↦ q
      | false ↦ elim (ltb q (at + m)) [ true ↦ q + n | false ↦ elim (ltb q (at + m + n)) [ true ↦ q - m | false ↦ q ] ]
    ]

module _ (at m n q : ℕ) where
  pub below : q < at → exchange at m n q ≡ q
  unfolding exchange
  below h = let a = lt-ltb q at h in rw (a, exchange)

  pub first_part : at ≤ q → q < at + m → exchange at m n q ≡ q + n
  unfolding exchange
  first_part h l = let a = le-ltb q at h in let b = lt-ltb q (at + m) l in rw (exchange, a, b)

  pub second-part : at + m ≤ q → q < at + m + n → exchange at m n q ≡ q - m
  unfolding exchange
  second-part h l =
      let a = le-ltb q at (omega arith) in
      let b = le-ltb q (at + m) h in
      let c = lt-ltb q (at + m + n) l in
      rw (exchange, a, b, c)

  pub beyond : at + m + n ≤ q → exchange at m n q ≡ q
  unfolding exchange
  beyond h =
      let a = le-ltb q at (omega arith) in
      let b = le-ltb q (at + m) (omega arith) in
      let c = le-ltb q (at + m + n) h in
      rw (exchange, a, b, c)

-- once more, and each is where it was
pub exchanged-back : (at m n q : ℕ) → exchange at n m (exchange at m n q) ≡ q
exchanged-back at m n q = go (dec_lt q at) (dec_lt q (at + m)) (dec_lt q (at + m + n))
  where
    go : Dec (q < at) → Dec (q < at + m) → Dec (q < at + m + n) → exchange at n m (exchange at m n q) ≡ q
    go (yes a) b c = ap (exchange at n m) (below at m n q a) ∙ below at n m q a
    go (no a) (yes b) c =
        ap (exchange at n m) (first_part at m n q (omega arith) b)
        ∙ second-part at n m (q + n) (omega arith) (omega arith)
        ∙ (let e : q + n - n ≡ q = omega arith in e)
    go (no a) (no b) (yes c) =
        ap (exchange at n m) (second-part at m n q (omega arith) c)
        ∙ first_part at n m (q - m) (omega arith) (omega arith)
        ∙ (let e : q - m + m ≡ q = omega arith in e)
    go (no a) (no b) (no c) = ap (exchange at n m) (beyond at m n q (omega arith)) ∙ beyond at n m q (omega arith)
