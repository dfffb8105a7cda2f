use Prim.Native.Nat.{ℕ, ◌^◌, ◌<◌}
use mathlib.Core.Path.{◌≡◌, sym, ap, ◌∙◌, subst}
use native.Mathlib.Omega.{arith}
use borrow.Author.Rules.{rules}
use lib.ListN.{length}
use Rattle.graph.specs.Search.{reaching}
use Rattle.graph.proofs.Walks.{reaching-on, reaching-below}
use Rattle.graph.proofs.loops.reaching.Goals as goal

pub loop-init : goal.loop-init
unfolding reaching
loop-init c = c.only-set.ensures

pub senders-requires : goal.senders-requires
senders-requires c =
    let l = c.loop in
    let a = c.args in
    subst (λ (s : ℕ). s < 2 ^ length a.rows.now) (sym l.invariant)
    (reaching-below a.rows.now a.alive a.t (length a.rows.now) (search rules) l.counter)

pub loop-preserved : goal.loop-preserved
loop-preserved c =
    let l = c.loop in
    let a = c.args in
    reaching-on a.rows.now a.alive a.t l.counter l.set _ l.invariant c.senders.ensures

pub returns : goal.returns
returns c =
    let l = c.loop in
    let a = c.args in
    let all : l.counter ≡ a.m = omega arith in
    l.invariant ∙ ap (reaching a.rows.now a.alive a.t) all
