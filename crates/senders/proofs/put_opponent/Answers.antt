-- `senders::put_opponent` meets its contract. Assumes nothing.
use mathlib.Core.Path.{sym}
use native.Mathlib.Omega.{arith}
use Rattle.text.proofs.Adding.{added-nothing, added-as}
use Rattle.senders.proofs.Laws.{opponent-absent, opponent-here}
use Rattle.senders.proofs.put_opponent.Goals as goal

pub returns-then-holds : goal.returns-then-holds
returns-then-holds c =
    let a = c.args in let r = c.put_room.ensures in
    record {
      added = added-as (sym (opponent-here a.words.now a.est.now a.b _ c.holds.ensures c.if-holds.true)) r;
      upper_bound = omega (arith, r.ends);
    }

pub returns-else-holds : goal.returns-else-holds
returns-else-holds c =
    let a = c.args in
    record {
      added = added-as (sym (opponent-absent a.words.now a.est.now a.b _ c.holds.ensures c.if-holds.false)) (added-nothing _ _);
      upper_bound = omega arith;
    }
