-- `test_tables::tables::blocks` meets its contract. The loop's invariant: to fill the slice from `i` on is to fill it from 1 on.
use mathlib.Core.Path.{◌≡◌}
use Prim.Native.Nat.{◌-◌}
use Rattle.test_tables.specs.Tables.{numbered, block_word}
use Rattle.test_tables.proofs.tables.blocks.Given as goal

abbrev pub invariant-loop-i : goal.invariant-loop-i
invariant-loop-i l = numbered (block_word l.span l.name) (l.i - 1) l.words l.i ≡ numbered (block_word l.span l.name) 0 l.initial.words 1
