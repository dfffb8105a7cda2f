-- `listing::read::misspelled` meets its contract. Assumes nothing.
use Prim.Native.Nat.{◌+◌, ◌-◌, ◌≤◌}
use mathlib.Core.Path.{◌≡◌}
use mathlib.Core.List.{map}
use lib.ListN.{length, drop}
use Rattle.listing.specs.Listing.{cut, word_in}
use Rattle.listing.specs.Listing.{misspelled as Listing·misspelled}
use Rattle.listing.proofs.read.misspelled.Given as goal

abbrev pub invariant-loop-at : goal.invariant-loop-at
invariant-loop-at l =
    (l.at ≤ length l.text) × (l.n ≤ 1024 + l.at)
    × (Listing·misspelled (l.before + 1) (map word_in (cut (drop l.start l.text))) ≡ Listing·misspelled (l.n + 1) (map word_in (cut (drop l.at l.text))))

abbrev pub decreases-loop-at : goal.decreases-loop-at
decreases-loop-at l = length l.text - l.at
