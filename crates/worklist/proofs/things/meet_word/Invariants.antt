-- `worklist::things::meet_word` meets its contract. The measure is the bits left, as a number. Assumes nothing.
use Rattle.worklist.proofs.things.meet_word.Given as goal

abbrev pub decreases-loop-i : goal.decreases-loop-i
decreases-loop-i l = l.bits
