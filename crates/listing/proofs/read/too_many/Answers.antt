-- `listing::read::too_many` meets its contract. Assumes nothing.
use mathlib.Core.Path.{sym, ap, ◌∙◌}
use Rattle.table.specs.Words.{kind}
use Rattle.table.specs.Answer.{number, place}
use Rattle.listing.proofs.Answers.{long-one, long-other}
use Rattle.listing.proofs.read.too_many.Goals as goal

pub returns-then-kind_of-eq-TABLE : goal.returns-then-kind_of-eq-TABLE
unfolding number place
returns-then-kind_of-eq-TABLE c =
    λ ws h e. long-one ws h (ap kind e ∙ sym c.kind_of.ensures ∙ c.if-kind_of-eq-TABLE.true)

pub returns-else-kind_of-eq-TABLE : goal.returns-else-kind_of-eq-TABLE
unfolding number place
returns-else-kind_of-eq-TABLE c =
    λ ws h e. long-other ws h (λ q. c.if-kind_of-eq-TABLE.false (c.kind_of.ensures ∙ sym (ap kind e) ∙ q))
