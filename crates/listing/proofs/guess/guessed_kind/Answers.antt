use mathlib.Core.Path.{sym, ◌∙◌}
use native.Mathlib.Omega.{arith}
use Rattle.listing.proofs.Guessing.{kind-start, kind-found, kind-next, kind-none, unused-first}
use Rattle.listing.proofs.guess.guessed_kind.Goals as goal

pub loop-k-init : goal.loop-k-init
loop-k-init c =
    kind-start _

pub returns-then-has_keyword-clause-kind : goal.returns-then-has_keyword-clause-kind
returns-then-has_keyword-clause-kind c =
    let l = c.loop-k in
    let a = c.args in
    let here = sym c.has_keyword.ensures ∙ c.if-has_keyword.true in
    (sym (l.invariant ∙ kind-found l.k a.l.now (omega arith) here), unused-first l.k a.l.now here)

pub loop-k-preserved : goal.loop-k-preserved
loop-k-preserved c =
    let l = c.loop-k in
    l.invariant ∙ kind-next l.k c.args.l.now (omega arith) (sym c.has_keyword.ensures ∙ c.if-has_keyword.false)

pub returns-clause-kind : goal.returns-clause-kind
returns-clause-kind c =
    let l = c.loop-k in
    l.invariant ∙ kind-none l.k c.args.l.now (omega arith)
