-- `listing::depth::find_depths` meets its contract. The loop's invariant: the stack holds the depths that wait, and those before are written.
-- Assumes nothing.
use Prim.Native.Nat.{◌≤◌}
use mathlib.Core.Path.{◌≡◌}
use lib.ListN.{length, take, drop}
use Rattle.listing.specs.Listing.{depths as Listing·depths}
use Rattle.listing.proofs.Depths.{Waits}
use Rattle.listing.proofs.depth.find_depths.Given as goal

abbrev pub invariant-loop-i : goal.invariant-loop-i
invariant-loop-i l = record {
  stack_size : length l.stack ≡ 1024;
  top_in_bounds : l.top ≤ 1024;
  waiting : Waits l.words l.i (drop l.top l.stack);
  written : take l.i l.depths ≡ take l.i (Listing·depths l.words);
}
