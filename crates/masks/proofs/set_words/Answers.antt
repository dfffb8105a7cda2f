use mathlib.Core.Path.{◌≡◌, ap, ◌∙◌}
use mathlib.Core.List.{List, ◌++◌}
use Prim.Native.Nat.{ℕ, ◌+◌, ◌-◌, ◌≤◌}
use native.Mathlib.Omega.{arith}
use lib.ListN.{length, take, drop, replicate}
use Rattle.calculus.specs.Layout.{pour, Words}
use Rattle.rows.proofs.Full.{full, filled}
use Rattle.rows.proofs.Laws.{length_part}
use Rattle.masks.proofs.set_words.Goals as goal

all_set : (ws last : List ℕ) (at n : ℕ) → at + n ≤ length ws → Words ws → last ≡ replicate (length (take (at + n - at) (drop at ws))) full
    → take at ws ++ (last ++ drop (at + n - at) (drop at ws)) ≡ pour ws at (replicate n full)
all_set ws last at n h f e =
    let z : at + n - at ≡ n = omega arith in
    ap (λ (xs : List ℕ). take at ws ++ (xs ++ drop (at + n - at) (drop at ws))) (e ∙ ap (λ (k : ℕ). replicate k full) (length_part ws at n h))
    ∙ ap (λ (k : ℕ). take at ws ++ (replicate n full ++ drop k (drop at ws))) z ∙ filled ws at n h f

pub returns : goal.returns
returns c =
    let a = c.args in all_set a.masks.now _ a.at a.n c.requires.0 (λ k. (c.slice_known-1.given k).fits) (c.fill.ensures.after (λ y e. e))
