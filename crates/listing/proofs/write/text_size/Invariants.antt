-- `listing::write::text_size` meets its contract. The loop's invariant: n and the length of the lines that are left make the whole.
-- Assumes nothing.
use Prim.Native.Nat.{◌+◌, ◌*◌, ◌≤◌}
use mathlib.Core.Path.{◌≡◌}
use lib.ListN.{length}
use Rattle.listing.specs.Listing.{listing}
use Rattle.listing.proofs.Lines.{rest}
use Rattle.listing.proofs.write.text_size.Given as goal

abbrev pub invariant-loop-i : goal.invariant-loop-i
invariant-loop-i l =
    (l.n ≤ 1000 * l.i) × (l.n + length (rest l.words l.i) ≡ length (listing l.words))
