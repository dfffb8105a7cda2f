use native.Mathlib.Nat.{mod-lt, mul-le-mul_left}
use Prim.Native.Nat.{ℕ, ◌+◌, ◌*◌, ◌%◌, ◌^◌}
use mathlib.Core.Path.{refl, sym, ap, ◌∙◌}
use native.Mathlib.Omega.{arith}
use lib.ListN.{drop}
use borrow.Author.Rules.{rules}
use Rattle.listing.specs.Spelling.{folded as Spelling·folded}
use Rattle.listing.proofs.Guessing.{folded-end, folded-feed, folded_more}
use Rattle.listing.proofs.guess.folded.Goals as goal

pub loop-i-init : goal.loop-i-init
loop-i-init c =
    (search rules, refl)

pub returns-then-b-eq10 : goal.returns-then-b-eq10
returns-then-b-eq10 c =
    let l = c.loop-i in
    let a = c.args in
    (sym (l.invariant.1 ∙ folded-feed a.base l.v a.l.now l.i (omega arith) c.if-b-eq10.true), l.invariant.0)

pub overflow_mul-v : goal.overflow_mul-v
overflow_mul-v c =
    let l = c.loop-i in
    let a = c.args in
    record { fits = omega (arith, l.invariant.0, c.requires, mul-le-mul_left {m = a.base} {n = 16} l.v c.requires) }

pub overflow_add-v : goal.overflow_add-v
overflow_add-v c =
    let l = c.loop-i in
    let a = c.args in
    record { fits = omega (arith, l.invariant.0, c.digit.ensures.1, mul-le-mul_left {m = a.base} {n = 16} l.v c.requires) }

pub loop-i-preserved : goal.loop-i-preserved
loop-i-preserved c =
    let l = c.loop-i in
    let a = c.args in (
      mod-lt _ (omega arith),
      l.invariant.1
          ∙ folded_more a.base l.v a.l.now l.i (omega arith) c.if-b-eq10.false
          ∙ ap (λ (d : ℕ). Spelling·folded a.base ((l.v * a.base + d) % 2 ^ 24) (drop (l.i + 1) a.l.now)) (sym c.digit.ensures.0),
    )

pub returns : goal.returns
returns c =
    let l = c.loop-i in
    let a = c.args in
    (sym (l.invariant.1 ∙ folded-end a.base l.v a.l.now l.i (omega arith)), l.invariant.0)
