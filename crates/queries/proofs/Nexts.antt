-- The search for the next thing that a row and a mask have: a word at a time, by its lowest digit.
use Prim.Native.Nat.{ℕ, ◌+◌, ◌-◌, ◌*◌, ◌/◌, ◌%◌, ◌^◌, ◌≤◌, ◌<◌}
use mathlib.Core.Path.{◌≡◌, sym, ap, ap₂, ◌∙◌}
use mathlib.Core.Bool.{false}
use mathlib.Core.List.{List}
use native.Mathlib.Decide.{dec_lt}
use native.Mathlib.Nat.{add-sub_cancel_left, div-one}
use native.Mathlib.Omega.{arith}
use lib.Bits.{bit_and, and_le_l}
use lib.Dec.{eqb}
use lib.ListN.{length, get_or, take, drop}
use lib.Pow.{shr-shr, shr_lt}
use Rattle.permset.specs.Sets.{member, lowest}
use Rattle.permset.proofs.Laws.{member-empty, lowest-member, lowest-below, lowest-lt}
use Rattle.calculus.proofs.Digits.{T_true}
use Rattle.rows.specs.Rows.{NextCommon}
use Rattle.rows.proofs.Laws.{get_or-row, length_part}
use Rattle.queries.specs.Things.{common, both, Next}

-- the digits of a word from digit k on
shifted : (x k i : ℕ) → member (x / 2 ^ k) i ≡ member x (k + i)
unfolding member
shifted x k i = ap (λ (y : ℕ). eqb (y % 2) 1) (shr-shr x k i)

-- x is what is left of the word of f
module _ (est masks : List ℕ) (lead at to f x : ℕ) (e : common est masks at to (lead + f / 32) / 2 ^ (f % 32) ≡ x) where
  same_word : (g : ℕ) → f ≤ g → g < (f / 32 + 1) * 32 → both est masks lead at to g ≡ member x (g - f)
  same_word g l m =
      let i : g / 32 ≡ f / 32 = omega arith in
      let j : g % 32 ≡ f % 32 + (g - f) = omega arith in
      rw (i, j, ← shifted, e)

  -- its lowest digit
  module _ (w : get_or est (at + (lead + f / 32)) 0 < 2 ^ 32) (n : x ≡ 0 → ⊥) where
    low : lowest x < 32 - f % 32
    low =
        let d : 32 - f % 32 + f % 32 ≡ 32 = omega arith in
        let b : common est masks at to (lead + f / 32) < 2 ^ (32 - f % 32 + f % 32) =
        rw d (omega (arith, and_le_l (get_or est (at + (lead + f / 32)) 0) (get_or masks (to + (lead + f / 32)) 0)))
        in
        lowest-lt (32 - f % 32) x (omega arith) (rw e at (shr_lt (32 - f % 32) (f % 32) b)) n

    pub next-found : (from size : ℕ) → from ≤ f → ((g : ℕ) → from ≤ g → g < f → both est masks lead at to g ≡ false)
        → Next est masks lead at to size from (f + lowest x)
    next-found from size h before =
        record {
          later = omega arith;
          none = λ g l m. go g l m (dec_lt g f);
          found =
              λ s. rw add-sub_cancel_left at (same_word (f + lowest x) (omega arith) (omega (arith, low)))
              ∙ T_true (member x (lowest x)) (lowest-member x (omega (arith, low)));
        }
      where
        go : (g : ℕ) → from ≤ g → g < f + lowest x → Dec (g < f) → both est masks lead at to g ≡ false
        go g l m (yes a) = before g l a
        go g l m (no a) = same_word g (omega arith) (omega (arith, low)) ∙ lowest-below x (g - f) (omega arith)

-- where nothing is left of the word of `from`, and k is the next word in common of the row and the mask, lent as parts
module _ (est masks : List ℕ) (lead at to from row k : ℕ) (z : common est masks at to (lead + from / 32) / 2 ^ (from % 32) ≡ 0)
    (next : NextCommon (take (at + row - at) (drop at est)) (take (to + row - to) (drop to masks)) (lead + from / 32 + 1) k) where
  part-word : (i : ℕ) → i < row
      → bit_and (get_or (take (at + row - at) (drop at est)) i 0) (get_or (take (to + row - to) (drop to masks)) i 0) ≡ common est masks at to i
  part-word i h = ap₂ bit_and (get_or-row est at (at + row - at) i (omega arith)) (get_or-row masks to (to + row - to) i (omega arith))

  passed : (g : ℕ) → from ≤ g → lead + g / 32 < k → lead + g / 32 < row → both est masks lead at to g ≡ false
  passed g h l m = go (dec_lt g ((from / 32 + 1) * 32))
    where
      go : Dec (g < (from / 32 + 1) * 32) → both est masks lead at to g ≡ false
      go (yes a) = same_word est masks lead at to from 0 z g h a ∙ member-empty (g - from)
      go (no a) =
          rw (sym (part-word (lead + g / 32) m) ∙ next.none (lead + g / 32) (omega arith) l) (member-empty (g % 32))

  pub later-found : (size : ℕ) → k < row → at + row ≤ length est → get_or est (at + k) 0 < 2 ^ 32
      → Next est masks lead at to size from (32 * (k - lead) + lowest (common est masks at to k))
  later-found size h l w =
      let f = 32 * (k - lead) in
      let x = common est masks at to k in
      let place : lead + f / 32 ≡ k = omega arith in
      let first : f % 32 ≡ 0 = omega arith in
      next-found est masks lead at to f x (rw (place, first) (div-one x)) (rw place w)
      (λ e. next.found (omega (arith, length_part est at row l)) (part-word k h ∙ e)) from size (omega arith)
      (λ g a b. passed g a (omega arith) (omega arith))

  pub later-none : (size : ℕ) → from < size → size + 32 * lead ≤ 32 * row → row ≤ k → Next est masks lead at to size from size
  later-none size h l m =
      record { later = omega arith; none = λ g a b. passed g a (omega arith) (omega arith); found = λ s. absurd (omega arith) }
