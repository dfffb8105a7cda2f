-- `class_report::steps::totals_step` meets its contract. Assumes nothing.
use native.Mathlib.Omega.{arith}
use Rattle.class_report.proofs.Stepped.{totals-done}
use Rattle.class_report.proofs.steps.totals_step.Goals as goal

pub returns : goal.returns
returns c = let a = c.args in totals-done a.tally a.piece.now _ _ _ (omega (arith, c.put_totals-size.ensures.fits)) c.put_totals-size.ensures
