-- `calls::checks::check` meets its contract.
-- Assumes nothing.
use mathlib.Core.Path.{sym, ap, ◌∙◌}
use Rattle.std.specs.Prelude.{Err}
use Rattle.std.proofs.lemmas.Result.{err_from_is_err_and}
use Rattle.table.specs.Answer.{outcome}
use Rattle.calls.specs.Faults.{fault_number, fault_place}
use Rattle.calls.proofs.Answers.{answer-table}
use Rattle.calls.proofs.checks.check.Goals as goal

pub check_call-requires : goal.check_call-requires
unfolding outcome
check_call-requires c = sym c.in_ok-read.ensures

pub returns-in_err-read : goal.returns-in_err-read
unfolding outcome fault_number fault_place
returns-in_err-read c =
    let a = c.args in
    let p = err_from_is_err_and c.from_residual.result c.from_residual.ensures.1 in
    rw (p.1, p.2) (answer-table a.words.now a.rho a.bound a.est a.work _ _ (sym c.in_err-read.ensures))
