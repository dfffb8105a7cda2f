-- Laws of `lowest_from`: the first of some numbers that passes a test.
use Prim.Native.Nat.{ℕ, zero, suc, ◌+◌, ◌-◌, ◌≤◌, ◌<◌}
use mathlib.Core.Path.{◌≡◌, refl, sym, ap, subst}
use mathlib.Core.Bool.{Bool, true, false}
use native.Mathlib.Decide.{ℕ_discrete, dec_lt}
use native.Mathlib.Numerals.{add-one}
use native.Mathlib.Nat.{le_antisymm}
use native.Mathlib.Omega.{arith}
use borrow.Author.Tests.{lt-leb, le-leb}
use lib.Dec.{T, leb}
use Rattle.std.specs.Prelude.{Option, Some, None, MatchOption}
use Rattle.std.specs.Bool.{then_some}
use Rattle.std.specs.Option.{unwrap_or}
use Rattle.graph.specs.Search.{lowest_from, IsBelow}

-- the number that is found, or else the end
pub or-end : (n k : ℕ) (r : Option ℕ) → IsBelow n k r → k ≤ n → unwrap_or r n ≡ k
or-end n k None h l = le_antisymm h l
or-end n k (Some i) h l = h.1

pub then-below : (n k : ℕ) → IsBelow (n + 1) k (then_some (leb k n) k)
then-below n k = go (dec_lt n k)
  where
    go : Dec (n < k) → IsBelow (n + 1) k (then_some (leb k n) k)
    go (yes l) = subst (λ (b : Bool). IsBelow (n + 1) k (then_some b k)) (sym (lt-leb k n l)) (omega arith)
    go (no l) = subst (λ (b : Bool). IsBelow (n + 1) k (then_some b k)) (sym (le-leb k n (omega (arith, l)))) (omega (arith, l), refl)

sub-step : (n i : ℕ) → i < n → n - i ≡ suc (n - suc i)
sub-step n i l = omega arith

module _ (passes : ℕ → Bool) where
  pub lowest-here : (count i : ℕ) → passes i ≡ true → lowest_from (suc count) i passes ≡ i
  unfolding lowest_from
  lowest-here count i e = ap (λ (b : Bool). elim b [ true ↦ i | false ↦ lowest_from count (suc i) passes ]) e

  pub lowest-on : (count i : ℕ) → passes i ≡ false → lowest_from (suc count) i passes ≡ lowest_from count (suc i) passes
  unfolding lowest_from
  lowest-on count i e = ap (λ (b : Bool). elim b [ true ↦ i | false ↦ lowest_from count (suc i) passes ]) e

  -- it is one of the numbers or the end
  pub lowest-least : (count i : ℕ) → i ≤ lowest_from count i passes
  unfolding lowest_from
  lowest-least zero i = omega arith
  lowest-least (suc count) i = go (passes i) (lowest-least count (suc i))
    where
      go : (b : Bool) → suc i ≤ lowest_from count (suc i) passes → i ≤ elim b [ true ↦ i | false ↦ lowest_from count (suc i) passes ]
      go true h = omega arith
      go false h = omega arith

  pub lowest-most : (count i : ℕ) → lowest_from count i passes ≤ i + count
  unfolding lowest_from
  lowest-most zero i = omega arith
  lowest-most (suc count) i = go (passes i) (lowest-most count (suc i))
    where
      go : (b : Bool) → lowest_from count (suc i) passes ≤ suc i + count → elim b [ true ↦ i | false ↦ lowest_from count (suc i) passes ] ≤ i + suc count
      go true h = omega arith
      go false h = omega arith

  -- if it is no end it passes
  pub lowest-passes : (count i : ℕ) → lowest_from count i passes < i + count → T (passes (lowest_from count i passes))
  unfolding lowest_from
  lowest-passes zero i h = absurd (omega arith)
  lowest-passes (suc count) i h = go (passes i) refl (lowest-passes count (suc i)) h
    where
      go : (b : Bool) → passes i ≡ b → (lowest_from count (suc i) passes < suc i + count → T (passes (lowest_from count (suc i) passes)))
          → elim b [ true ↦ i | false ↦ lowest_from count (suc i) passes ] < i + suc count
          → T (passes (elim b [ true ↦ i | false ↦ lowest_from count (suc i) passes ]))
      go true e r l = subst T (sym e) tt
      go false e r l = r (omega arith)

  -- and none before it passes
  pub lowest-le : (count i z : ℕ) → i ≤ z → T (passes z) → z < i + count → lowest_from count i passes ≤ z
  unfolding lowest_from
  lowest-le zero i z h t l = omega arith
  lowest-le (suc count) i z h t l = go (passes i) refl (λ m. lowest-le count (suc i) z m t (omega arith))
    where
      next : passes i ≡ false → Dec (i ≡ z) → suc i ≤ z
      next e (yes d) = absurd (subst T e (subst (λ (k : ℕ). T (passes k)) (sym d) t))
      next e (no d) = omega arith

      go : (b : Bool) → passes i ≡ b → (suc i ≤ z → lowest_from count (suc i) passes ≤ z)
          → elim b [ true ↦ i | false ↦ lowest_from count (suc i) passes ] ≤ z
      go true e r = h
      go false e r = r (next e (ℕ_discrete i z))

  -- what passes, and none before it does, is the first
  pub lowest-is : (count i j : ℕ) → i ≤ j → j < i + count → T (passes j) → ((z : ℕ) → i ≤ z → z < j → T (passes z) → ⊥) → lowest_from count i passes ≡ j
  lowest-is count i j h l t f = le_antisymm (lowest-le count i j h t l) (go (dec_lt (lowest_from count i passes) j))
    where
      go : Dec (lowest_from count i passes < j) → j ≤ lowest_from count i passes
      go (yes s) = absurd (f (lowest_from count i passes) (lowest-least count i) s (lowest-passes count i (omega arith)))
      go (no s) = omega arith

  -- where none passes it is the end
  pub lowest-end : (count i : ℕ) → ((z : ℕ) → i ≤ z → z < i + count → T (passes z) → ⊥) → lowest_from count i passes ≡ i + count
  lowest-end count i f = le_antisymm (lowest-most count i) (go (dec_lt (lowest_from count i passes) (i + count)))
    where
      go : Dec (lowest_from count i passes < i + count) → i + count ≤ lowest_from count i passes
      go (yes s) = absurd (f (lowest_from count i passes) (lowest-least count i) s (lowest-passes count i s))
      go (no s) = omega arith

  -- as a search through 0..n finds it
  pub found-below : (n : ℕ) (r : Option ℕ)
      → MatchOption r ((k : ℕ) → 0 ≤ k → k < n → passes k ≡ false) (λ i. (0 ≤ i) × (i < n) × (passes i ≡ true) × ((k : ℕ) → 0 ≤ k → k < i → passes k ≡ false))
      → IsBelow n (lowest_from n 0 passes) r
  found-below n None h = omega (arith, lowest-end n 0 (λ z g l t. subst T (h z g (omega arith)) t))
  found-below n (Some i) h =
      (h.1, sym (lowest-is n 0 i h.0 (omega (arith, h.1)) (subst T (sym h.2) tt) (λ z g l t. subst T (h.3 z g l) t)))

  -- ---- as a loop goes, from i up to n

  pub scan-here : (n i : ℕ) → i < n → passes i ≡ true → lowest_from (n - i) i passes ≡ i
  scan-here n i l e = rw (sub-step n i l) (lowest-here (n - suc i) i e)

  pub scan-on : (n i : ℕ) → i < n → passes i ≡ false → lowest_from (n - i) i passes ≡ lowest_from (n - (i + 1)) (i + 1) passes
  scan-on n i l e = rw (sub-step n i l, add-one i) (lowest-on (n - suc i) i e)

  pub scan-end : (n i : ℕ) → n ≤ i → lowest_from (n - i) i passes ≡ i
  unfolding lowest_from
  scan-end n i l = let e : n - i ≡ 0 = omega arith in rw e refl
