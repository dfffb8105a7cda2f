-- `listing::guess::guessed_kind` meets its contract. Assumes nothing.
use mathlib.Core.Path.{◌≡◌}
use lib.ListN.{drop}
use Rattle.listing.specs.Keywords.{entries}
use Rattle.listing.specs.Spelling.{kind_from, guessed_kind}
use Rattle.listing.proofs.guess.guessed_kind.Given as goal

abbrev pub invariant-loop-k : goal.invariant-loop-k
invariant-loop-k l =
    guessed_kind l.l ≡ kind_from l.k (drop l.k entries) l.l
