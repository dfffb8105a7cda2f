-- `deliveries::put_word` meets its contract. Assumes nothing.
use mathlib.Core.Path.{sym, ◌∙◌}
use native.Mathlib.Omega.{arith}
use Rattle.text.proofs.Adding.{added-nothing, added-as}
use Rattle.deliveries.proofs.SendLines.{lines-send, lines_none}
use Rattle.deliveries.proofs.put_word.Goals as goal

pub returns-then-kind_of-eq-SEND : goal.returns-then-kind_of-eq-SEND
returns-then-kind_of-eq-SEND c =
    let a = c.args in let r = c.put_receivers.ensures in
    record {
      added = added-as (sym (lines-send a.words.now a.p a.home a.from (sym c.kind_of.ensures ∙ c.if-kind_of-eq-SEND.true))) r.added;
      upper_bound = omega (arith, r.upper_bound, c.requires.2);
    }

pub returns-else-kind_of-eq-SEND : goal.returns-else-kind_of-eq-SEND
returns-else-kind_of-eq-SEND c =
    let a = c.args in
    record {
      added = added-as (sym (lines_none a.words.now a.p a.home a.from (λ z. c.if-kind_of-eq-SEND.false (c.kind_of.ensures ∙ z)))) (added-nothing _ _);
      upper_bound = omega arith;
    }
