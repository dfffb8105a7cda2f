-- `reading_order::firsts::list_firsts` meets its contract. Assumes nothing.
use native.Mathlib.Omega.{arith}
use Prim.Native.Nat.{ℕ}
use lib.ListN.{replicate, length-replicate}
use Rattle.table.proofs.Limits.{size-le}
use Rattle.reading_order.proofs.firsts.list_firsts.Goals as goal

pub list_linked-requires : goal.list_linked-requires
list_linked-requires c = (
  c.requires.0,
  record {
    slice = replicate 1024 0;
    room = omega (arith, size-le c.args.words.now c.requires.0, length-replicate {A = ℕ} 1024 0);
    made = c.link.ensures;
  },
  c.requires.1,
)
