use Prim.Native.Nat.{ℕ, ◌-◌, ◌^◌, ◌≤◌, ◌<◌}
use mathlib.Core.Path.{◌≡◌, refl, sym, ap, ◌∙◌, subst}
use mathlib.Core.Bool.{Bool}
use mathlib.Core.List.{List}
use native.Mathlib.Omega.{arith}
use borrow.Author.Rules.{rules}
use lib.Bits.{bit_and}
use lib.ListN.{length}
use Rattle.permset.specs.Sets.{member}
use Rattle.graph.specs.Search.{senders, reaching, closes}
use Rattle.graph.proofs.Lowest.{scan-here, scan-on, scan-end}
use Rattle.graph.proofs.Walks.{reaching-at, reaching-below}
use Rattle.graph.proofs.loops.closing.Goals as goal

-- the test of a turn
tested : (rows : List ℕ) (alive t m set found : ℕ) (r : Bool) → 1 ≤ m → set ≡ reaching rows alive t (m - 1) → found ≡ senders rows set
    → r ≡ member (bit_and found alive) t → r ≡ closes rows alive m t
unfolding closes
tested rows alive t m set found r l e f g = g ∙ ap (λ (s : ℕ). member s t) (reaching-at rows alive t m set found l e f)

pub loop-m-init : goal.loop-m-init
unfolding reaching
loop-m-init c = (c.only-set.ensures, refl)

pub senders-requires : goal.senders-requires
senders-requires c =
    let l = c.loop-m in
    let a = c.args in
    subst (λ (s : ℕ). s < 2 ^ length a.rows.now) (sym l.invariant.0)
    (reaching-below a.rows.now a.alive a.t (length a.rows.now) (search rules) (l.m - 1))

pub returns-then-has : goal.returns-then-has
returns-then-has c =
    let l = c.loop-m in
    let a = c.args in
    sym (scan-here (λ k. closes a.rows.now a.alive k a.t) a.limit l.m (search rules)
    (sym (tested a.rows.now a.alive a.t l.m l.set _ _ (search rules) l.invariant.0 c.senders.ensures
    c.has.ensures) ∙ c.if-has.true))
    ∙ l.invariant.1

pub loop-m-preserved : goal.loop-m-preserved
loop-m-preserved c =
    let l = c.loop-m in
    let a = c.args in (
      reaching-at a.rows.now a.alive a.t l.m l.set _ (search rules) l.invariant.0 c.senders.ensures
          ∙ ap (reaching a.rows.now a.alive a.t) (omega arith),
      sym (scan-on (λ k. closes a.rows.now a.alive k a.t) a.limit l.m (search rules)
          (sym (tested a.rows.now a.alive a.t l.m l.set _ _ (search rules) l.invariant.0 c.senders.ensures
          c.has.ensures) ∙ c.if-has.false))
          ∙ l.invariant.1,
    )

pub returns : goal.returns
returns c =
    let l = c.loop-m in
    let a = c.args in
    let last : a.limit ≡ l.m = omega arith in
    last ∙ sym (scan-end (λ k. closes a.rows.now a.alive k a.t) a.limit l.m c.loop-m-test.false) ∙ l.invariant.1
