-- `listing::guess::folded` meets its contract. The loop's invariant: what is left, after v, gives the number of the whole. Assumes nothing.
use Prim.Native.Nat.{◌^◌, ◌<◌}
use mathlib.Core.Path.{◌≡◌}
use lib.ListN.{drop}
use Rattle.listing.specs.Spelling.{folded as Spelling·folded}
use Rattle.listing.proofs.guess.folded.Given as goal

abbrev pub invariant-loop-i : goal.invariant-loop-i
invariant-loop-i l =
    (l.v < 2 ^ 24) × (Spelling·folded l.base 0 (drop l.at l.l) ≡ Spelling·folded l.base l.v (drop l.i l.l))
