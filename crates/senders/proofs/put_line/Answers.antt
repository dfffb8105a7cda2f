-- `senders::put_line` meets its contract. Assumes nothing.
use Prim.Native.Nat.{ℕ}
use mathlib.Core.Path.{ap}
use mathlib.Core.List.{◌++◌}
use native.Mathlib.Omega.{arith}
use Rattle.text.specs.Text.{bytes, decimal}
use Rattle.text.proofs.Adding.{added_then, added-as}
use Rattle.senders.specs.Text.{line}
use Rattle.senders.proofs.put_line.Goals as goal

pub returns : goal.returns
unfolding line
returns c =
    let f = c.add_number-a.ensures in let n = c.add_number-c.ensures in let r = c.put_room-d.ensures in let g = c.put_all-e.ensures in let e = c.put_room.ensures in
    let named = added-as (ap (λ (x : ℕ). bytes " name " ++ decimal x) c.argument_of-name.ensures) n.added in
    record {
      added = added_then (added_then (added_then (added_then f.added named) r) g.added) e;
      upper_bound = omega (arith, f.upper_bound, n.upper_bound, r.ends, g.upper_bound, e.ends);
    }
