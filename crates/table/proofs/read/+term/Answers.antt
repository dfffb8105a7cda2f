-- The proof of the cycle of calls {term}: the measure is what is left of the depths. The loop's invariant: with the parts so far
-- read, what is left gives the outcome of the whole.
-- Assumes nothing.
use mathlib.Core.Path.{sym, ap, subst, ◌∙◌}
use Prim.Native.Nat.{ℕ, ◌<◌, ◌≤◌}
use native.Mathlib.Omega.{arith}
use mir.Val.{bool_byte}
use Rattle.std.specs.Prelude.{Ok, Err}
use Rattle.std.proofs.lemmas.Result.{err_from_is_err_and}
use Rattle.table.specs.Scan.{term as term_task, missing}
use Rattle.table.specs.Answer.{number, place, outcome}
use Rattle.table.specs.Rest.{after_step}
use Rattle.table.proofs.read.Steps.{judged-zero, none_left, stops}
use Rattle.table.proofs.read.Parts.{left-none, left-part, left-all}
use Rattle.table.proofs.read.+term.Goals as goal

pub returns-then-words-at : goal.returns-then-words-at
unfolding after_step number place missing
returns-then-words-at t c = λ keys h s ts e. none_left _ _ keys _ (term_task _ h s) ts c.if-words-at.true

pub returns-in_err-term_word : goal.returns-in_err-term_word
unfolding after_step outcome
returns-in_err-term_word t c =
    let p = err_from_is_err_and c.from_residual.result c.from_residual.ensures.1 in
    rw (p.1, p.2)
    (λ keys h s ts e. stops _ c.args.words.now keys c.args.at (term_task _ h s) ts (omega arith) _ _ (c.in_err-term_word.ensures.judged keys h s e))

pub loop-i-init : goal.loop-i-init
unfolding outcome
loop-i-init t c =
    let a = c.args in
    left-none _ a.words.now a.at _ _ (omega arith) (λ keys h s e. judged-zero _ _ (sym (c.in_ok-term_word.ensures.judged keys h s e)))

pub returns-in_err-next : goal.returns-in_err-next
unfolding after_step
returns-in_err-next t c =
    let a = c.args in
    let l = c.loop-i in
    let p = err_from_is_err_and c.from_residual-in_err-next.result c.from_residual-in_err-next.ensures.1 in
    rw (p.1, p.2)
    (left-part _ a.words.now a.at a.depth a.binders _ l.next l.i l.invariant (subst (λ (m : ℕ). l.i < m) c.arity_of-i-end.ensures c.loop-i-test.true)
    _ (c.from.ensures ∙ ap bool_byte c.binds.ensures) (after_step (Err c.in_err-next.field-0.0) a.names a.words.now) c.in_err-next.ensures)

pub loop-i-preserved : goal.loop-i-preserved
unfolding after_step
loop-i-preserved t c =
    let a = c.args in
    let l = c.loop-i in
    left-part _ a.words.now a.at a.depth a.binders _ l.next l.i l.invariant (subst (λ (m : ℕ). l.i < m) c.arity_of-i-end.ensures c.loop-i-test.true)
    _ (c.from.ensures ∙ ap bool_byte c.binds.ensures) (after_step (Ok c.in_ok-next.next) a.names a.words.now) c.in_ok-next.ensures

pub returns : goal.returns
unfolding after_step
returns t c =
    left-all _ c.args.words.now c.args.at c.args.depth c.args.binders _ c.loop-i.next _ c.loop-i.invariant
    (subst (λ (m : ℕ). m ≤ c.loop-i.i) c.arity_of-i-end.ensures c.loop-i-test.false)
