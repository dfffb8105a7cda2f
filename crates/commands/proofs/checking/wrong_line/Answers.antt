-- `commands::checking::wrong_line` meets its contract. Assumes nothing.
use native.Mathlib.Omega.{arith}
use Rattle.text.proofs.Writing.{reworded, then, wrote_nothing}
use Rattle.commands.proofs.Checks.{wrong-none, wrong-some}
use Rattle.commands.proofs.checking.wrong_line.Goals as goal

pub returns-then-n-eq0 : goal.returns-then-n-eq0
returns-then-n-eq0 c =
    record {
      wrote = reworded (wrong-none c.args.n c.args.text.now c.if-n-eq0.true) (wrote_nothing _ _ (omega arith));
      upper_bound = omega arith;
    }

pub returns : goal.returns
returns c =
    let v = c.shown_line-next.ensures in
    let w = c.corrected.ensures in
    record {
      wrote = reworded (wrong-some c.args.n c.args.text.now c.if-n-eq0.false) (then v.wrote w.wrote);
      upper_bound = omega (arith, v.upper_bound, w.upper_bound);
    }
