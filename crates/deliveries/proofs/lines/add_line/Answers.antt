-- `deliveries::lines::add_line` meets its contract. Assumes nothing.
use native.Mathlib.Omega.{arith}
use Rattle.text.proofs.Writing.{line_taken}
use Rattle.text.proofs.Adding.{added-as}
use borrow.Author.Rules.{rules}
use Rattle.deliveries.proofs.lines.add_line.Goals as goal

pub put_room-requires : goal.put_room-requires
put_room-requires c = let l = c.delivery_line-n.ensures in (search rules, omega (arith, l.line.counts, l.upper_bound))

pub returns : goal.returns
returns c =
    let l = c.delivery_line-n.ensures in let r = c.put_room.ensures in
    record {
      added = added-as (line_taken l.line) r;
      upper_bound = omega (arith, r.ends, l.line.counts, l.upper_bound);
    }
