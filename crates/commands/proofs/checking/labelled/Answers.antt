-- `commands::checking::labelled` meets its contract. Assumes nothing.
use native.Mathlib.Omega.{arith}
use Rattle.text.proofs.Writing.{reworded, then, wrote_nothing}
use Rattle.commands.proofs.Checks.{labelled-none, labelled-some}
use Rattle.commands.proofs.checking.labelled.Goals as goal

pub returns-then-text-eq0 : goal.returns-then-text-eq0
returns-then-text-eq0 c =
    record {
      wrote = reworded (labelled-none c.args.label.now c.args.n c.args.text.now c.if-text-eq0.true) (wrote_nothing _ _ (omega arith));
      upper_bound = omega arith;
    }

pub returns : goal.returns
returns c =
    let v = c.number_field-a.ensures in
    let w = c.put-b.ensures in
    let x = c.put_first.ensures in
    record {
      wrote = reworded (labelled-some c.args.label.now c.args.n c.args.text.now c.if-text-eq0.false) (then (then v.wrote w) x.wrote);
      upper_bound = omega (arith, v.upper_bound, w.ends, x.upper_bound);
    }
