-- `overlay::search::seek` meets its contract. The loop's invariant: the search among the blocks that are left finds what the whole finds.
use mathlib.Core.Path.{◌≡◌}
use Prim.Native.Nat.{◌-◌, ◌≤◌}
use lib.ListN.{length, drop}
use Rattle.table.specs.Words.{narrow}
use Rattle.blocks.specs.Blocks.{cut}
use Rattle.blocks.proofs.Tables.{Cuts}
use Rattle.overlay.specs.Lookup.{sought, seek}
use Rattle.overlay.proofs.search.seek.Given as goal

abbrev pub invariant-loop : goal.invariant-loop
invariant-loop l =
    (l.at ≤ length l.words) × Cuts narrow (l.handlers - l.counter) (drop l.at l.words)
    × (sought l.words l.name l.perms ≡ seek l.name l.perms l.at (cut (l.handlers - l.counter) (drop l.at l.words)))
