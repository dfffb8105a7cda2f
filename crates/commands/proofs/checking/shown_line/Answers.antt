-- `commands::checking::shown_line` meets its contract. Assumes nothing.
use Prim.Native.Nat.{◌-◌}
use native.Mathlib.Omega.{arith}
use lib.ListN.{length, drop, length-take, length-drop}
use Rattle.text.proofs.Writing.{reworded}
use Rattle.commands.proofs.Checks.{shown-is}
use Rattle.commands.proofs.checking.shown_line.Goals as goal

pub returns : goal.returns
returns c =
    let b = c.behind-start in
    let w = c.labelled.ensures in
    let text = c.args.text.now in
    record {
      wrote = reworded (shown-is c.args.label.now c.args.k text b.result b.ensures.rest) w.wrote;
      upper_bound = omega (arith, w.upper_bound, length-take (length text - b.result) (drop b.result text), length-drop b.result text);
    }
