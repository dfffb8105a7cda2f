-- `firing::step::step` meets its contract: the clause is fired where its word is live. Assumes nothing.
use mathlib.Core.Path.{sym, ◌∙◌}
use native.Mathlib.Omega.{arith}
use Rattle.table.specs.Code.{code}
use Rattle.table.proofs.Blocks.{head-word}
use Rattle.calculus.specs.Constraint.{L}
use Rattle.calculus.proofs.Folds.{fire-given, fire-given-not}
use Rattle.queries.proofs.Given.{sized, size_is}
use Rattle.firing.proofs.Suited.{plain-small, clause-is, clause-suits}
use Rattle.firing.proofs.step.step.Goals as goal

pub is_live-requires : goal.is_live-requires
is_live-requires c = (sized c.requires.0 c.requires.1, omega (arith, c.requires.2))

pub returns-then-not-is_live-clause-fired : goal.returns-then-not-is_live-clause-fired
returns-then-not-is_live-clause-fired c =
    let a = c.args in let d = code a.words.now in
    record { words = sym (fire-given-not d (L a.p) 0 _ a.est.now (sym (c.is_live.ensures d c.requires.0.laid) ∙ c.if-not-is_live.true)); count = omega arith }

pub overflow_mul-l : goal.overflow_mul-l
overflow_mul-l c = omega (arith, plain-small c.requires.0)

pub clause-asked-requires : goal.clause-asked-requires
clause-asked-requires c = let y = c.requires.0 in (omega (arith, size_is y, c.requires.2), (head-word c.args.words.now y.readable).sized, plain-small y)

pub fire-requires : goal.fire-requires
fire-requires c =
    let a = c.args in
    (c.requires.0, c.requires.1, rw (c.clause-asked.ensures ∙ clause-is c.requires.0 a.p a.k) (clause-suits c.requires.0 a.p c.requires.2 a.k))

pub returns-clause-fired : goal.returns-clause-fired
returns-clause-fired c =
    let f = c.fire in let a = c.args in let d = code a.words.now in
    let made = c.clause-asked.ensures ∙ clause-is c.requires.0 a.p a.k in
    let live = sym (c.is_live.ensures d c.requires.0.laid) ∙ c.if-not-is_live.false in
    record { words = rw made at f.ensures.words ∙ sym (fire-given d (L a.p) 0 _ a.est.now live); count = f.ensures.count }
