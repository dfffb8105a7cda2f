-- `calls::checks::check_call` meets its contract: each test in turn.
-- Assumes nothing.
use mathlib.Core.Path.{sym, ◌∙◌}
use Rattle.calls.specs.Faults.{fault_number, fault_place}
use Rattle.calls.proofs.Answers.{rho-wrong, bound-wrong, estimate-short, work-short, call_fits}
use native.Mathlib.Omega.{arith}
use Rattle.calls.proofs.checks.check_call.Goals as goal

pub returns-then-rho-ge16777216 : goal.returns-then-rho-ge16777216
unfolding fault_number fault_place
returns-then-rho-ge16777216 c =
    let a = c.args in rho-wrong a.words.now a.rho a.bound a.est a.work c.requires c.if-rho-ge16777216.true

pub returns-then-stray_bound : goal.returns-then-stray_bound
unfolding fault_number fault_place
returns-then-stray_bound c =
    let a = c.args in
    bound-wrong a.words.now a.rho a.bound a.est a.work c.requires c.if-rho-ge16777216.false (sym c.stray_bound.ensures ∙ c.if-stray_bound.true)

pub returns-then-est-words_needed : goal.returns-then-est-words_needed
unfolding fault_number fault_place
returns-then-est-words_needed c =
    let a = c.args in
    estimate-short a.words.now a.rho a.bound a.est a.work c.requires c.if-rho-ge16777216.false (sym c.stray_bound.ensures ∙ c.if-stray_bound.false) (omega (arith, c.words_needed.ensures, c.if-est-words_needed.true))

pub returns-then-work-words : goal.returns-then-work-words
unfolding fault_number fault_place
returns-then-work-words c =
    let a = c.args in
    work-short a.words.now a.rho a.bound a.est a.work c.requires c.if-rho-ge16777216.false (sym c.stray_bound.ensures ∙ c.if-stray_bound.false) (omega (arith, c.words_needed.ensures, c.if-est-words_needed.false)) c.if-work-words.true

pub returns : goal.returns
returns c =
    let a = c.args in
    call_fits a.words.now a.rho a.bound a.est a.work c.requires c.if-rho-ge16777216.false (sym c.stray_bound.ensures ∙ c.if-stray_bound.false) (omega (arith, c.words_needed.ensures, c.if-est-words_needed.false)) c.if-work-words.false
