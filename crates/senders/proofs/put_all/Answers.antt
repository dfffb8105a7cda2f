-- `senders::put_all` meets its contract. Assumes nothing.
use native.Mathlib.Omega.{arith}
use Rattle.text.proofs.Adding.{added_then}
use Rattle.senders.specs.Text.{senders}
use Rattle.senders.proofs.Laws.{added-nobody, added-somebody}
use Rattle.senders.proofs.put_all.Goals as goal

pub returns-then-end-at : goal.returns-then-end-at
unfolding senders
returns-then-end-at c =
    let f = c.put_senders-next.ensures in let g = c.put_opponent-end.ensures in let r = c.put_room.ensures in
    record {
      added = added-nobody (added_then f.added g.added) c.if-end-at.true r;
      upper_bound = omega (arith, r.ends);
    }

pub returns-else-end-at : goal.returns-else-end-at
unfolding senders
returns-else-end-at c =
    let f = c.put_senders-next.ensures in let g = c.put_opponent-end.ensures in
    record {
      added = added-somebody (added_then f.added g.added) c.if-end-at.false;
      upper_bound = omega (arith, f.upper_bound, g.upper_bound);
    }
