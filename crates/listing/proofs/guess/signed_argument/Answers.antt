-- `listing::guess::signed_argument` meets its contract. Assumes nothing.
use Rattle.listing.proofs.Guessing.{no_minus, argument-minus, argument-plus}
use Prim.Native.Nat.{ℕ, ◌+◌, ◌-◌, ◌%◌, ◌^◌}
use mathlib.Core.Path.{◌≡◌, ap, ◌∙◌}
use native.Mathlib.Nat.{mod-lt}
use native.Mathlib.Omega.{arith}
use lib.ListN.{get_or}
use Rattle.listing.proofs.guess.signed_argument.Goals as goal
use Rattle.listing.proofs.guess.signed_argument.Goals.{else-first-l-via-then-first-l+else-l-first-eq45, else-first-l-via-else-first-l}

pub returns-then-l-first-eq45 : goal.returns-then-l-first-eq45
returns-then-l-first-eq45 c =
    let a = c.args in
    (ap (λ (n : ℕ). (2 ^ 24 - n) % 2 ^ 24) c.folded.ensures.0 ∙ argument-minus a.l.now a.at c.if-l-first-eq45.true, mod-lt _ (omega arith))

pub returns : goal.returns
returns c =
    let a = c.args in
    let no : get_or a.l.now (a.at + 1) 0 ≡ 45 → ⊥ =
    elim c.else-first-l.branch [
      | else-first-l-via-then-first-l+else-l-first-eq45 w ↦ w.if-l-first-eq45.false
      | else-first-l-via-else-first-l w ↦ no_minus a.l.now (a.at + 1) w.if-first-l.false
    ] in
    (c.folded-2.ensures.0 ∙ argument-plus a.l.now a.at no, c.folded-2.ensures.1)
