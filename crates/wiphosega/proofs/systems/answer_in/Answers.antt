-- `wiphosega::systems::answer_in` is safe: what is read fits the words. Assumes nothing.
use Rattle.std.proofs.Common.{sym, arith, length-take-le}
use Rattle.listing.specs.Answer.{answered}
use Rattle.listing.proofs.Theorems.{read_fits}
use Rattle.wiphosega.proofs.systems.answer_in.Goals as goal

pub slice_bounds-words-end : goal.slice_bounds-words-end
unfolding answered
slice_bounds-words-end g c = omega (arith, read_fits _ _ _ (sym c.in-Ok.ensures.answer), c.read.auto.out)

pub slice_bounds-answer-end : goal.slice_bounds-answer-end
unfolding answered
slice_bounds-answer-end g c = sym (length-take-le _ _ (omega (arith, read_fits _ _ _ (sym c.in-Ok.ensures.answer), c.read.auto.out)))
