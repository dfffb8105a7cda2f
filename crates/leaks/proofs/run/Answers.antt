-- `leaks::run` meets its contract. Assumes nothing.
use native.Mathlib.Omega.{arith}
use lib.ListN.{length}
use Rattle.commands.proofs.Runs.{run-written, run_short}
use Rattle.leaks.specs.Leak.{leak_text}
use Rattle.leaks.proofs.run.Goals as goal

pub returns-then-out-lt81920 : goal.returns-then-out-lt81920
returns-then-out-lt81920 c =
    let a = c.args in
    let r = run_short (leak_text a.rho.now a.bound.now a.ceiling.now a.input.now) (length a.input.now) a.out.now (omega arith) in
    record {
      size = r.0;
      out = r.1;
      fits = r.2;
    }

pub returns-then-out-input : goal.returns-then-out-input
returns-then-out-input c =
    let a = c.args in
    let r = run_short (leak_text a.rho.now a.bound.now a.ceiling.now a.input.now) (length a.input.now) a.out.now (omega arith) in
    record {
      size = r.0;
      out = r.1;
      fits = r.2;
    }

pub returns : goal.returns
returns c =
    let a = c.args in
    let r = run-written (leak_text a.rho.now a.bound.now a.ceiling.now a.input.now) (length a.input.now) a.out.now (omega arith) _ _ c.leak_text.ensures in
    record {
      size = r.0;
      out = r.1;
      fits = r.2;
    }
