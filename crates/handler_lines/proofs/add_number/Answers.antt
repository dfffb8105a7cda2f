-- `handler_lines::add_number` meets its contract. Assumes nothing.
use native.Mathlib.Omega.{arith}
use Rattle.text.proofs.Writing.{line_taken}
use Rattle.text.proofs.Adding.{added-as}
use Rattle.handler_lines.proofs.add_number.Goals as goal

pub returns : goal.returns
returns c =
    let l = c.number_line-size.ensures in let r = c.put_room.ensures in
    record {
      added = added-as (line_taken l.line) r;
      upper_bound = omega (arith, r.ends, l.line.counts, l.upper_bound);
    }
