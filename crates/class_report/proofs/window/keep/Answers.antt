-- `class_report::window::keep` meets its contract. Assumes nothing.
use mathlib.Core.Path.{ap, ◌∙◌}
use native.Mathlib.Omega.{arith}
use lib.ListN.{take, drop}
use mathlib.Core.List.{◌++◌}
use Prim.Native.Nat.{ℕ, ◌-◌}
use Rattle.class_report.proofs.window.keep.Goals as goal

pub returns : goal.returns
returns c =
    record {
      count = ap (λ (n : ℕ). n - c.args.from) c.min-end.ensures;
      bytes = c.copy_within.ensures.after ∙ ap (λ (k : ℕ). take (c.min-end.result - c.args.from) (drop c.args.from c.args.buffer.now) ++ drop k c.args.buffer.now) (omega arith);
    }
