-- `senders::put_sender` meets its contract. Assumes nothing.
use mathlib.Core.Path.{sym, ◌∙◌}
use native.Mathlib.Omega.{arith}
use Rattle.table.specs.Code.{code}
use Rattle.text.proofs.Adding.{added-nothing, added-as}
use Rattle.senders.proofs.Laws.{lead-few, sender-none, sender-absent, sender-here}
use Rattle.senders.proofs.put_sender.Goals as goal

pub returns-then-kind_of-ne-BLOCK : goal.returns-then-kind_of-ne-BLOCK
returns-then-kind_of-ne-BLOCK c =
    let a = c.args in
    record {
      added = added-as (sym (sender-none a.words.now a.est.now a.b a.s a.position (λ z. c.if-kind_of-ne-BLOCK.true (c.kind_of.ensures ∙ z)))) (added-nothing _ _);
      upper_bound = omega arith;
    }

-- the plain elements are few
pub overflow_mul-first : goal.overflow_mul-first
overflow_mul-first c =
    omega (arith, lead-few c.args.words.now c.of-first.result c.of-first.ensures)

pub overflow_add-first : goal.overflow_add-first
overflow_add-first c =
    omega (arith, lead-few c.args.words.now c.of-first.result c.of-first.ensures)

pub holds-requires : goal.holds-requires
unfolding code
holds-requires c =
    (c.requires.0, c.requires.1, omega (arith, c.of-first.ensures.lead))

pub returns-then-holds : goal.returns-then-holds
returns-then-holds c =
    let a = c.args in
    let r = c.add_number.ensures in
    let k = sym c.kind_of.ensures ∙ c.if-kind_of-ne-BLOCK.false in
    record {
      added = added-as (sym (sender-here a.words.now a.est.now a.b a.s a.position c.of-first.result c.of-first.ensures k _ c.holds.ensures c.if-holds.true)) r.added;
      upper_bound = r.upper_bound;
    }

pub returns-else-holds : goal.returns-else-holds
returns-else-holds c =
    let a = c.args in
    let k = sym c.kind_of.ensures ∙ c.if-kind_of-ne-BLOCK.false in
    record {
      added = added-as (sym (sender-absent a.words.now a.est.now a.b a.s a.position c.of-first.result c.of-first.ensures k _ c.holds.ensures c.if-holds.false)) (added-nothing _ _);
      upper_bound = omega arith;
    }
