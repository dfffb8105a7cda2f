-- `class_report::steps::refusal_step` meets its contract. Assumes nothing.
use native.Mathlib.Omega.{arith}
use Rattle.class_report.proofs.Stepped.{refusal-done}
use Rattle.class_report.proofs.steps.refusal_step.Goals as goal

pub returns : goal.returns
returns c =
    let a = c.args in
    refusal-done a.tally a.piece.now _ _ _ (omega (arith, c.refusal_line-size.ensures.wrote.fits)) a.fault _ _ c.fault_number.ensures c.position.ensures c.refusal_line-size.ensures.wrote
