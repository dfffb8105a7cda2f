-- Words passed one by one: how many digits they have.
use Prim.Native.Nat.{ℕ, suc, ◌+◌, ◌-◌, ◌^◌, ◌≤◌, ◌<◌}
use mathlib.Core.Path.{◌≡◌, sym, ap, ◌∙◌}
use mathlib.Core.List.{List, ◌∷◌}
use native.Mathlib.Numerals.{add-one}
use native.Mathlib.Omega.{arith}
use lib.Count.{ones}
use lib.ListN.{length, get_or, take, drop, drop_of_length-le}
use lib.Seq.{drop-cons}
use Rattle.calculus.specs.Estimate.{facts}
use Rattle.calculus.proofs.Facts.{ones-word}

step : (ws : List ℕ) (i : ℕ) → i < length ws → drop i ws ≡ get_or ws i 0 ∷ drop (i + 1) ws
step ws i h = rw (add-one, drop-cons ws i 0)

pub facts-first : (x : ℕ) (xs : List ℕ) → x < 2 ^ 32 → facts (x ∷ xs) ≡ ones x + facts xs
unfolding facts
facts-first x xs l = ap (λ (n : ℕ). n + facts xs) (sym (ones-word x l))

-- from the place i on
module _ (ws : List ℕ) (i : ℕ) where
  pub facts-later : i < length ws → get_or ws i 0 < 2 ^ 32 → facts (drop i ws) ≡ ones (get_or ws i 0) + facts (drop (i + 1) ws)
  facts-later h l = ap facts (step ws i h) ∙ facts-first (get_or ws i 0) (drop (i + 1) ws) l

  pub facts-done : length ws ≤ i → facts (drop i ws) ≡ 0
  unfolding facts
  facts-done h = ap facts (drop_of_length-le ws h)

-- a side cut into its first word and the rest
pub side_cut : (ws : List ℕ) (x lead : ℕ) → 1 ≤ lead → x + lead ≤ length ws
    → get_or ws x 0 ∷ take (x + lead - (x + 1)) (drop (x + 1) ws) ≡ take lead (drop x ws)
side_cut ws x lead h k =
    let e : suc (x + lead - (x + 1)) ≡ lead = omega arith in
    sym (ap (λ (zs : List ℕ). take lead zs) (step ws x (omega arith)) ∙ ap (λ (n : ℕ). take n (get_or ws x 0 ∷ drop (x + 1) ws)) (sym e))
