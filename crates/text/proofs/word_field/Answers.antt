-- `text::word_field` meets its contract. Assumes nothing.
use mathlib.Core.Path.{sym, ap}
use mathlib.Core.Bool.{Bool}
use mathlib.Core.List.{◌++◌}
use native.Mathlib.Omega.{arith}
use Rattle.text.specs.Text.{choice}
use Rattle.text.proofs.Writing.{reworded, then}
use Rattle.text.proofs.word_field.Goals as goal

pub returns-then-flag : goal.returns-then-flag
returns-then-flag c =
    let a = c.args in record {
      wrote = reworded (ap (λ (f : Bool). a.label.now ++ choice f a.a.now a.b.now) (sym c.if-flag.true))
          (then c.put-next.ensures c.put.ensures);
      upper_bound = omega arith;
    }

pub returns-else-flag : goal.returns-else-flag
returns-else-flag c =
    let a = c.args in record {
      wrote = reworded (ap (λ (f : Bool). a.label.now ++ choice f a.a.now a.b.now) (sym c.if-flag.false))
          (then c.put-next.ensures c.put-else-flag.ensures);
      upper_bound = omega arith;
    }
