-- `senders::put_block` meets its contract. Assumes nothing.
use mathlib.Core.Path.{sym, ◌∙◌}
use native.Mathlib.Omega.{arith}
use Rattle.text.proofs.Adding.{added-nothing, added-as}
use Rattle.senders.proofs.Laws.{block_none, block_here}
use Rattle.senders.proofs.put_block.Goals as goal

pub returns-then-kind_of-eq-BLOCK : goal.returns-then-kind_of-eq-BLOCK
returns-then-kind_of-eq-BLOCK c =
    let a = c.args in let r = c.put_line.ensures in
    record {
      added = added-as (sym (block_here a.words.now a.est.now a.b a.position (sym c.kind_of.ensures ∙ c.if-kind_of-eq-BLOCK.true))) r.added;
      upper_bound = r.upper_bound;
    }

pub returns-else-kind_of-eq-BLOCK : goal.returns-else-kind_of-eq-BLOCK
returns-else-kind_of-eq-BLOCK c =
    let a = c.args in
    record {
      added = added-as (sym (block_none a.words.now a.est.now a.b a.position (λ z. c.if-kind_of-eq-BLOCK.false (c.kind_of.ensures ∙ z)))) (added-nothing _ _);
      upper_bound = omega arith;
    }
