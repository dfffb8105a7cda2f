-- `listing::write::put_lines` meets its contract. The loop's invariant: the listing is written up to `at`, and the lines from i on are left.
-- Assumes nothing.
use Prim.Native.Nat.{◌≤◌}
use mathlib.Core.Path.{◌≡◌}
use lib.ListN.{length, take, drop}
use Rattle.text.specs.Writing.{Wrote}
use Rattle.listing.specs.Listing.{listing}
use Rattle.listing.proofs.Lines.{rest}
use Rattle.listing.proofs.write.put_lines.Given as goal

abbrev pub invariant-loop-i : goal.invariant-loop-i
invariant-loop-i l = record {
  in_bounds : l.at ≤ length (listing l.words);
  left_over : drop l.at (listing l.words) ≡ rest l.words l.i;
  written : Wrote l.initial.out 0 (take l.at (listing l.words)) l.out l.at;
}
