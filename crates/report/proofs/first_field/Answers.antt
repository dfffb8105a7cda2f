-- `report::first_field` meets its contract. Assumes nothing.
use mathlib.Core.Path.{sym, ap}
use mathlib.Core.Bool.{Bool}
use mathlib.Core.List.{◌++◌}
use native.Mathlib.Omega.{arith}
use Rattle.text.specs.Text.{bytes}
use Rattle.report.specs.Lines.{first_outside}
use Rattle.text.proofs.Writing.{reworded}
use Rattle.report.proofs.first_field.Goals as goal

pub returns-then-over : goal.returns-then-over
unfolding first_outside
returns-then-over c =
    record {
      wrote = reworded (ap (λ (o : Bool). bytes " first " ++ first_outside o c.args.first) (sym c.if-over.true))
          c.number_field.ensures.wrote;
      upper_bound = omega arith;
    }

pub returns-else-over : goal.returns-else-over
unfolding first_outside
returns-else-over c =
    record {
      wrote = reworded (ap (λ (o : Bool). bytes " first " ++ first_outside o c.args.first) (sym c.if-over.false))
          c.put.ensures;
      upper_bound = omega (arith, c.put.ensures.ends);
    }
