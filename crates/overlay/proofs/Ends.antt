-- The words of terms, counted one word at a time from a place of the table.
use mathlib.Core.Path.{◌≡◌, ap, ◌∙◌}
use mathlib.Core.List.{List}
use Prim.Native.Nat.{ℕ, zero, suc, ◌+◌, ◌-◌, ◌≤◌, ◌<◌}
use native.Mathlib.Nat.{not-suc-le-zero}
use native.Mathlib.Numerals.{add-one}
use native.Mathlib.Omega.{arith}
use lib.ListN.{length, get_or, drop, drop_of_length-le}
use lib.Seq.{drop-cons, drop-drop}
use Rattle.table.specs.Words.{arity}
use Rattle.table.specs.Code.{skip}
use Rattle.blocks.specs.Blocks.{block_length}

module _ (ws : List ℕ) (at : ℕ) where
  -- no word is left
  pub skip-past : (n : ℕ) → length ws ≤ at → at + skip (drop at ws) n ≡ at
  unfolding skip
  skip-past n h = rw (drop_of_length-le ws h) (omega arith)

  -- one word more
  pub skip-on : (n : ℕ) → at < length ws → 0 < n
      → at + skip (drop at ws) n ≡ at + 1 + skip (drop (at + 1) ws) (n - 1 + arity (get_or ws at 0))
  unfolding skip
  skip-on zero h p = absurd (not-suc-le-zero p)
  skip-on (suc n) h p =
      let w = get_or ws at 0 in
      let v = drop (suc at) ws in
      let one : at + skip (drop at ws) (suc n) ≡ at + suc (skip v (arity w + n)) = ap (λ (l : List ℕ). at + skip l (suc n)) (drop-cons ws at 0 h) in
      let two : skip v (arity w + n) ≡ skip v (suc n - 1 + arity w) = ap (skip v) (let e : arity w + n ≡ suc n - 1 + arity w = omega arith in e) in
      rw add-one (one ∙ (let e : at + suc (skip v (arity w + n)) ≡ suc at + skip v (suc n - 1 + arity w) = omega (arith, two) in e))

-- a block's body follows its three words
pub block-ends : (ws : List ℕ) (at : ℕ) → at + 3 + skip (drop (at + 3) ws) 1 ≡ at + block_length (drop at ws)
unfolding block_length
block-ends ws at = let e = ap (λ (l : List ℕ). skip l 1) (drop-drop 3 at ws) in omega arith
