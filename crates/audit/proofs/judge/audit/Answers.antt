-- `audit::judge::audit` meets its contract.
-- Assumes nothing.
use mathlib.Core.Path.{◌≡◌, sym, ◌∙◌, subst}
use native.Mathlib.Omega.{arith}
use Rattle.std.proofs.lemmas.Result.{err_from_is_err_and}
use Rattle.table.specs.Answer.{outcome}
use Rattle.audit.specs.Audited.{said, audited}
use Rattle.audit.specs.Passes.{Exact}
use Rattle.audit.proofs.Exact.{exact}
use Rattle.audit.proofs.Steps.{table-refused, table-accepted}
use Rattle.audit.proofs.judge.audit.Goals as goal

pub judged-requires : goal.judged-requires
unfolding outcome
judged-requires c = sym c.in_ok-read.ensures

pub returns-in_err-read : goal.returns-in_err-read
unfolding said outcome
returns-in_err-read c =
    let a = c.args in
    let p = err_from_is_err_and c.from_residual.result c.from_residual.ensures.1 in
    let e : said c.from_residual.result ≡ audited a.words.now a.rho a.est.now =
    rw (p.1, p.2, said) (table-refused a.words.now a.rho a.est.now _ _ (sym c.in_err-read.ensures)) in
    record {
      answer = e;
      exact = subst (Exact a.words.now a.rho a.est.now) (sym e) (exact a.words.now a.rho a.est.now (λ k. omega (arith, c.type_inv.est k)));
    }

pub returns : goal.returns
unfolding outcome
returns c =
    let a = c.args in
    let e = c.judged.ensures ∙ table-accepted a.words.now a.rho a.est.now (sym c.in_ok-read.ensures) in
    record {
      answer = e;
      exact = subst (Exact a.words.now a.rho a.est.now) (sym e) (exact a.words.now a.rho a.est.now (λ k. omega (arith, c.type_inv.est k)));
    }
