-- `deliveries::put_receiver` meets its contract. Assumes nothing.
use mathlib.Core.Path.{sym, ap, ◌∙◌}
use native.Mathlib.Omega.{arith}
use Rattle.deliveries.specs.Text.{line}
use Rattle.text.proofs.Adding.{added-nothing, added-as}
use Rattle.deliveries.proofs.SendLines.{receiver-block, receiver-none}
use Rattle.deliveries.proofs.put_receiver.Goals as goal

pub returns-then-kind_of-eq-BLOCK : goal.returns-then-kind_of-eq-BLOCK
returns-then-kind_of-eq-BLOCK c =
    let a = c.args in let r = c.add_line.ensures in
    record {
      added = added-as (ap (line a.p a.from a.to) c.answer.ensures ∙ sym (receiver-block a.words.now a.p a.home a.from a.q a.to (sym c.kind_of.ensures ∙ c.if-kind_of-eq-BLOCK.true))) r.added;
      upper_bound = r.upper_bound;
    }

pub returns-else-kind_of-eq-BLOCK : goal.returns-else-kind_of-eq-BLOCK
returns-else-kind_of-eq-BLOCK c =
    let a = c.args in
    record {
      added = added-as (sym (receiver-none a.words.now a.p a.home a.from a.q a.to (λ z. c.if-kind_of-eq-BLOCK.false (c.kind_of.ensures ∙ z)))) (added-nothing _ _);
      upper_bound = omega arith;
    }
