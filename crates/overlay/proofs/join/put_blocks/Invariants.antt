-- `overlay::join::put_blocks` meets its contract. The loop's invariant: what is written, and what the blocks that are left give, is what all
-- blocks give.
use Prim.Native.Nat.{◌-◌}
use Rattle.overlay.specs.Parts.{is_new}
use Rattle.overlay.proofs.Going.{Going}
use Rattle.overlay.proofs.join.put_blocks.Given as goal

abbrev pub invariant-loop : goal.invariant-loop
invariant-loop l = Going l.initial.out l.start l.table l.other (is_new l.wanted) l.out (l.handlers - l.counter) l.at l.end l.count
