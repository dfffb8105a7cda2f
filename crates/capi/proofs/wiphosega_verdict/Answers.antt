-- `capi::wiphosega_verdict` meets its contract: refused before the reading, or answered on the words of the system. Assumes nothing.
use mathlib.Core.Path.{refl, sym}
use Rattle.little_endian.specs.LittleEndian.{words_of}
use Rattle.capi.proofs.Systems.{system-size, refused-before, answered-after, refused-answered, answered-as}
use Rattle.capi.proofs.wiphosega_verdict.Goals as goal

pub returns-in-Some : goal.returns-in-Some
returns-in-Some c =
    let a = c.args in
    let n = c.in-Some.ensures in
    let all = answered-as a.system.now a.rho a.bound a.estimate.now a.work.now _ _ _ _
    (refused-answered (words_of a.system.now) a.rho _ a.estimate.now a.work.now _ c.refusal.ensures)
    (sym (refused-before a.system.now a.rho a.bound _ _ _ n.0 n.1)) in record {
      answer = all.0;
      estimate = all.1.0;
      work = all.1.1.0;
      correct = all.1.1.1.0;
      guarantee = all.1.1.1.1;
    }

pub of_system-requires : goal.of_system-requires
of_system-requires c =
    (system-size _ c.in_default.ensures, refl)

pub returns : goal.returns
returns c =
    let a = c.args in
    let all = answered-as a.system.now a.rho a.bound a.estimate.now a.work.now _ _ _ _ c.of_system.ensures
    (answered-after a.system.now a.rho a.bound _ _ c.in_default.ensures) in record {
      answer = all.0;
      estimate = all.1.0;
      work = all.1.1.0;
      correct = all.1.1.1.0;
      guarantee = all.1.1.1.1;
    }
