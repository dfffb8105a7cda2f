-- `comparison::bound_used` meets its contract. Assumes nothing.
use Rattle.comparison.proofs.Bounds.{standing-bound, given-bound}
use Rattle.comparison.proofs.bound_used.Goals as goal

pub returns-then-bound-eq2147483648 : goal.returns-then-bound-eq2147483648
returns-then-bound-eq2147483648 c = standing-bound c.args.bound c.if-bound-eq2147483648.true

pub returns-else-bound-eq2147483648 : goal.returns-else-bound-eq2147483648
returns-else-bound-eq2147483648 c = given-bound c.args.bound c.if-bound-eq2147483648.false
