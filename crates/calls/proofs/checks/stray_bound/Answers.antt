-- `calls::checks::stray_bound` meets its contract: the second test counts where the first holds.
-- Assumes nothing.
use mathlib.Core.Path.{◌≡◌, sym, ap, ◌∙◌}
use mathlib.Core.Bool.{Bool, false, not, ◌&&◌}
use lib.Dec.{eqb, leb}
use borrow.Author.Tests.{le-leb, lt-leb}
use Rattle.calculus.specs.Answer.{standing_bound}
use Rattle.calls.proofs.checks.stray_bound.Goals as goal

pub returns-then-bound-ge16777216 : goal.returns-then-bound-ge16777216
returns-then-bound-ge16777216 c = sym (ap (λ (t : Bool). t && not (eqb c.args.bound standing_bound)) (le-leb 16777216 _ c.if-bound-ge16777216.true))

pub returns-else-bound-ge16777216 : goal.returns-else-bound-ge16777216
returns-else-bound-ge16777216 c =
    let short : leb 16777216 c.args.bound ≡ false = lt-leb 16777216 _ c.if-bound-ge16777216.false in
    short ∙ sym (ap (λ (t : Bool). t && not (eqb c.args.bound standing_bound)) short)
