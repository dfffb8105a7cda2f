-- `listing::read::misplaced` meets its contract. Assumes nothing.
use Prim.Native.Nat.{◌+◌}
use mathlib.Core.Path.{◌≡◌}
use Rattle.listing.specs.Listing.{misplaced as Listing·misplaced}
use Rattle.listing.proofs.read.misplaced.Given as goal

abbrev pub invariant-loop-i : goal.invariant-loop-i
invariant-loop-i l =
    Listing·misplaced 1 l.depths l.spaces
    ≡ Listing·misplaced (l.i-iterator.count + 1) l.i-iterator.iter.a.rest.now l.i-iterator.iter.b.rest.now
