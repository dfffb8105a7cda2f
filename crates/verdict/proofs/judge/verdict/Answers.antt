-- `verdict::judge::verdict` meets its contract: refused by its checks, or judged. Assumes nothing.
use mathlib.Core.Path.{◌≡◌, refl}
use Rattle.std.proofs.lemmas.Result.{err_from_is_err_and}
use Rattle.calculus.specs.Answer.{refused}
use Rattle.calls.specs.Faults.{fault_number, fault_place}
use Rattle.comparison.specs.Values.{answer_of}
use Rattle.verdict.proofs.Answers.{judged, rejected, promised}
use Rattle.verdict.proofs.judge.verdict.Goals as goal

pub find-found-requires : goal.find-found-requires
find-found-requires c = c.in_ok-check.ensures.fit

pub returns-in_err-check : goal.returns-in_err-check
unfolding answer_of
returns-in_err-check c =
    let a = c.args in
    let f = c.in_err-check.field-0.0 in
    let p = err_from_is_err_and c.from_residual.result c.from_residual.ensures.1 in
    let says : answer_of c.from_residual.result ≡ refused (fault_number f) (fault_place f) = rw (p.1, p.2, answer_of) refl in
    let j = rejected a.words.now a.rho a.bound a.est.now a.work.now _ _ _ c.in_err-check.ensures says in
    let all = promised a.words.now a.rho a.bound a.est.now a.work.now _ _ _ j in
    record { answer = all.0; estimate = all.1.0; work = all.1.1.0; correct = all.1.1.1.0; guarantee = all.1.1.1.1 }

pub returns : goal.returns
returns c =
    let a = c.args in
    let j =
    judged a.words.now a.rho a.bound a.est.now a.work.now _ _ _ _ _ c.in_ok-check.ensures c.find-found.ensures c.compared.ensures
    c.bound_used.ensures in
    let all = promised a.words.now a.rho a.bound a.est.now a.work.now _ _ _ j in
    record { answer = all.0; estimate = all.1.0; work = all.1.1.0; correct = all.1.1.1.0; guarantee = all.1.1.1.1 }
