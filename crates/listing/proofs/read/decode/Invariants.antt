-- `listing::read::decode` meets its contract. The loop's invariant: the first n lines are taken. Assumes nothing.
use Rattle.listing.specs.Decoding.{Taken}
use Rattle.listing.proofs.read.decode.Given as goal

abbrev pub invariant-loop-n : goal.invariant-loop-n
invariant-loop-n l = Taken l.text l.n l.at l.words l.spaces
