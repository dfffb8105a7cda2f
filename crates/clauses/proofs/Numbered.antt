-- Rows by their numbers: where they stand in the words of an estimate.
use Prim.Native.Nat.{ℕ, ◌+◌, ◌*◌, ◌/◌, ◌%◌, ◌≤◌, ◌<◌}
use mathlib.Core.Path.{◌≡◌, refl, ap}
use mathlib.Core.List.{List}
use native.Mathlib.Decide.{ℕ_discrete}
use native.Mathlib.Nat.{mul-le-mul_right}
use native.Mathlib.Omega.{arith}
use borrow.Author.Tests.{eq-eqb, ne_eqb}
use lib.ListN.{take, drop}
use Rattle.table.specs.Code.{Code}
use Rattle.calculus.specs.Constraint.{Row, C, B}
use Rattle.calculus.specs.Layout.{row_words, base, content}
use Rattle.calculus.proofs.RowRules.{ValueRow, C-row, B-row}
use Rattle.clauses.specs.Asks.{row_at}

-- row i of n words lies in the words of an estimate
pub row_inside : (n r i : ℕ) → i < 2 * n → i * r + r ≤ 2 * n * r + n
row_inside n r i h = omega (arith, mul-le-mul_right r h)

-- the row of values with this number
pub data Numbered : Row → ℕ → Type 0 where
  in-C : {i n : ℕ} → n ≡ 2 * i → Numbered (C i) n
  in-B : {i n : ℕ} → n ≡ 2 * i + 1 → Numbered (B i) n

pub numbered : (n : ℕ) → Numbered (row_at n) n
unfolding row_at
numbered n = go (ℕ_discrete (n % 2) 0)
  where
    go : Dec (n % 2 ≡ 0) → Numbered (row_at n) n
    go (yes e) = let i : n ≡ 2 * (n / 2) = omega arith in rw (eq-eqb (n % 2) 0 e, row_at) (in-C i)
    go (no e) = let i : n ≡ 2 * (n / 2) + 1 = omega arith in rw (ne_eqb (n % 2) 0 e, row_at) (in-B i)

-- what holds of the value sets and of the held sets
pub by_number : (q : Row → Type 0) (n : ℕ) → ((i : ℕ) → n ≡ 2 * i → q (C i)) → ((i : ℕ) → n ≡ 2 * i + 1 → q (B i)) → q (row_at n)
by_number q n f g = go (numbered n)
  where
    go : {r : Row} → Numbered r n → q r
    go (in-C {i} e) = f i e
    go (in-B {i} e) = g i e

module _ (c : Code) where
  pub base-row : (n : ℕ) → base c (row_at n) ≡ n * row_words c
  unfolding base
  base-row n = by_number (λ r. base c r ≡ n * row_words c) n (λ i e. rw e) (λ i e. omega (arith, ap (λ (x : ℕ). x * row_words c) e))

  pub content-row : (ws : List ℕ) (n : ℕ) → content c ws (row_at n) ≡ take (row_words c) (drop (n * row_words c) ws)
  unfolding content
  content-row ws n = rw (← base-row n) (by_number (λ r. content c ws r ≡ take (row_words c) (drop (base c r) ws)) n (λ i e. refl) (λ i e. refl))

  pub value_row : (n : ℕ) → n < 2 * c.size → ValueRow c (row_at n)
  value_row n h = by_number (ValueRow c) n (λ i e. C-row c i (omega arith)) (λ i e. B-row c i (omega arith))
