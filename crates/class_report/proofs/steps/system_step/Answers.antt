-- `class_report::steps::system_step` meets its contract. Assumes nothing.
use native.Mathlib.Omega.{arith}
use Rattle.class_report.proofs.Stepped.{system-done}
use Rattle.class_report.proofs.steps.system_step.Goals as goal

pub returns : goal.returns
returns c =
    let a = c.args in
    system-done a.tally a.piece.now _ _ _ (omega (arith, c.system_line-size.ensures.fits)) a.words _ _ _ _ _ c.position.ensures c.fingerprint.ensures c.word_at.ensures c.judge-outcome.ensures c.tallied.ensures c.system_line-size.ensures
