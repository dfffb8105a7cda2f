-- `verdict::limit::verdict_within` meets its contract: refused by its checks, over the ceiling, or judged. Assumes nothing.
use mathlib.Core.Path.{◌≡◌, refl, ◌∙◌, ap}
use Rattle.std.specs.Prelude.{Err}
use Rattle.std.proofs.lemmas.Result.{err_from_is_err_and}
use Rattle.calculus.specs.Answer.{refused}
use Rattle.calls.specs.Faults.{fault_number, fault_place}
use Rattle.comparison.specs.Values.{answer_of}
use Rattle.verdict.specs.Limits.{limited_answer}
use Rattle.verdict.proofs.Limits.{turned-away, exceeded, allowed, promised-under}
use Rattle.verdict.proofs.limit.verdict_within.Goals as goal

pub find_within-requires : goal.find_within-requires
find_within-requires c = c.in_ok-check.ensures.fit

pub returns-in_err-check : goal.returns-in_err-check
unfolding answer_of limited_answer
returns-in_err-check c =
    let a = c.args in
    let f = c.in_err-check.field-0.0 in
    let p = err_from_is_err_and c.from_residual.result c.from_residual.ensures.1 in
    let says : limited_answer c.from_residual.result ≡ refused (fault_number f) (fault_place f) = rw (p.1, p.2, limited_answer) refl in
    let j = turned-away a.words.now a.rho a.bound a.ceiling a.est.now a.work.now _ _ _ c.in_err-check.ensures says in
    let all = promised-under a.words.now a.rho a.bound a.ceiling a.est.now a.work.now _ _ _ j in
    record { answer = all.0; estimate = all.1.0; work = all.1.1.0; correct = all.1.1.1.0; guarantee = all.1.1.1.1 }

pub returns-in_err-found : goal.returns-in_err-found
returns-in_err-found c =
    let a = c.args in
    let p = err_from_is_err_and c.from_residual-in_err-found.result c.from_residual-in_err-found.ensures.1 in
    let j =
    exceeded a.words.now a.rho a.bound a.ceiling a.est.now a.work.now _ _ c.in_ok-check.ensures _ _ c.in_err-found.ensures
    (p.1 ∙ ap Err p.2) in
    let all = promised-under a.words.now a.rho a.bound a.ceiling a.est.now a.work.now _ _ _ j in
    record { answer = all.0; estimate = all.1.0; work = all.1.1.0; correct = all.1.1.1.0; guarantee = all.1.1.1.1 }

pub returns : goal.returns
returns c =
    let a = c.args in
    let j =
    allowed a.words.now a.rho a.bound a.ceiling a.est.now a.work.now _ _ c.in_ok-check.ensures _ c.in_ok-found.ensures _ _
    c.compared.ensures c.bound_used.ensures in
    let all = promised-under a.words.now a.rho a.bound a.ceiling a.est.now a.work.now _ _ _ j in
    record { answer = all.0; estimate = all.1.0; work = all.1.1.0; correct = all.1.1.1.0; guarantee = all.1.1.1.1 }
