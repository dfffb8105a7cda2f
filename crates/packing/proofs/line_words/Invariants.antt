-- `packing::line_words` meets its contract. Assumes nothing.
use Rattle.packing.proofs.Laws.{Taken}
use Rattle.packing.proofs.line_words.Given as goal

abbrev pub invariant-loop-n : goal.invariant-loop-n
invariant-loop-n l = Taken l.text l.words l.n l.at
