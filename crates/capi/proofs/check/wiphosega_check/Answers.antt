-- `capi::check::wiphosega_check` meets its contract: refused before the reading, or checked on the words of the system. Assumes nothing.
use mathlib.Core.Path.{refl, sym, ap, ◌∙◌, subst}
use native.Mathlib.Omega.{arith}
use Rattle.capi.specs.Check.{check_number, ExactNumber}
use Rattle.capi.proofs.Systems.{system-size}
use Rattle.capi.proofs.Taken.{exact-number, refused-before, answered-after}
use Rattle.capi.proofs.check.wiphosega_check.Goals as goal

pub returns-in-Some : goal.returns-in-Some
returns-in-Some c =
    let a = c.args in
    let n = c.in-Some.ensures in
    let e = c.refusal.ensures ∙ sym (refused-before a.system.now a.rho a.estimate.now _ n.0 n.1) in record {
      answer = e;
      exact = subst (ExactNumber a.system.now a.rho a.estimate.now) (sym e)
          (exact-number a.system.now a.rho a.estimate.now (λ k. omega (arith, c.type_inv.estimate k)));
    }

pub of_system-requires : goal.of_system-requires
of_system-requires c =
    (system-size _ c.in_default.ensures, refl)

pub returns : goal.returns
returns c =
    let a = c.args in
    let e = c.of_system.ensures ∙ ap check_number (answered-after a.system.now a.rho a.estimate.now c.in_default.ensures) in record {
      answer = e;
      exact = subst (ExactNumber a.system.now a.rho a.estimate.now) (sym e)
          (exact-number a.system.now a.rho a.estimate.now (λ k. omega (arith, c.type_inv.estimate k)));
    }
