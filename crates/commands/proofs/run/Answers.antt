-- `commands::run` meets its contract. Assumes nothing.
use native.Mathlib.Omega.{arith}
use lib.ListN.{length}
use Rattle.commands.specs.Printed.{printed}
use Rattle.commands.proofs.Runs.{run-written, run_short}
use Rattle.commands.proofs.run.Goals as goal

pub returns-then-out-lt81920 : goal.returns-then-out-lt81920
returns-then-out-lt81920 c = let r = run_short (printed c.args.command.now c.args.first.now c.args.second.now c.args.input.now) (length c.args.input.now) c.args.out.now (omega arith) in record {
  size = r.0;
  out = r.1;
  fits = r.2;
}

pub returns-then-out-input : goal.returns-then-out-input
returns-then-out-input c = let r = run_short (printed c.args.command.now c.args.first.now c.args.second.now c.args.input.now) (length c.args.input.now) c.args.out.now (omega arith) in record {
  size = r.0;
  out = r.1;
  fits = r.2;
}

pub returns : goal.returns
returns c = let r = run-written (printed c.args.command.now c.args.first.now c.args.second.now c.args.input.now) (length c.args.input.now) c.args.out.now (omega arith) _ _ c.print.ensures in record {
  size = r.0;
  out = r.1;
  fits = r.2;
}
