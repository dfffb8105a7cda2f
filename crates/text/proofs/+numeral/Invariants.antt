-- `text::numeral` meets its contract: the measure is the number of places. Assumes nothing.
use Rattle.text.proofs.+numeral.Given as goal

abbrev pub decreases-numeral : goal.decreases-numeral
decreases-numeral l = l.places
