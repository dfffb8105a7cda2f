use mathlib.Core.Path.{◌≡◌, ap, ◌∙◌}
use mathlib.Core.Bool.{true, false}
use mathlib.Core.List.{List}
use Prim.Native.Nat.{ℕ, ◌+◌, ◌-◌, ◌≤◌, ◌<◌}
use native.Mathlib.Decide.{ℕ_discrete}
use native.Mathlib.Omega.{arith}
use borrow.Author.Tests.{eq-eqb, ne_eqb}
use lib.Bits.{bit_and}
use lib.ListN.{get_or}
use Rattle.permset.specs.Sets.{within}
use Rattle.stray.specs.Allowed.{inside}
use Rattle.stray.proofs.search.outside.Goals as goal

module _ (est row : List ℕ) (at i : ℕ) where
  abbrev x : ℕ
  x = get_or est (at + i) 0

  here : inside est row at (at + i) ≡ within x (get_or row i 0)
  here = let z : at + i - at ≡ i = omega arith in ap (λ (j : ℕ). within x (get_or row j 0)) z

  outer : (bit_and x (get_or row i 0) ≡ x → ⊥) → inside est row at (at + i) ≡ false
  unfolding within
  outer n = here ∙ ne_eqb (bit_and x (get_or row i 0)) x n

  inner : bit_and x (get_or row i 0) ≡ x → inside est row at (at + i) ≡ true
  unfolding within
  inner e = here ∙ eq-eqb (bit_and x (get_or row i 0)) x e

  more : ((k : ℕ) → at ≤ k → k < at + i → inside est row at k ≡ true) → inside est row at (at + i) ≡ true
      → (k : ℕ) → at ≤ k → k < at + (i + 1) → inside est row at k ≡ true
  more f g k h l = go (ℕ_discrete k (at + i))
    where
      go : Dec (k ≡ at + i) → inside est row at k ≡ true
      go (yes e) = ap (inside est row at) e ∙ g
      go (no e) = f k h (omega arith)

pub returns-then-x-row : goal.returns-then-x-row
returns-then-x-row c =
    let l = c.loop-i in
    let a = c.args in
    record {
      low = omega arith;
      most = omega arith;
      before = l.invariant;
      fails = λ h. outer a.est.now a.row.now a.at l.i c.if-x-row.true;
    }

pub loop-i-preserved : goal.loop-i-preserved
loop-i-preserved c =
    let l = c.loop-i in
    let a = c.args in
    more a.est.now a.row.now a.at l.i l.invariant (inner a.est.now a.row.now a.at l.i c.if-x-row.false)
