use Rattle.std.proofs.Common.{◌∙◌, sym, rules, tests}
use Rattle.table.specs.Answer.{number, place}
use Rattle.widths.specs.Answers.{fault_number, fault_place, checked_as}
use Rattle.widths.proofs.Refusals.{checked-reading, of-kind, other-kind, no_word}
use Rattle.widths.proofs.fit.read_as.Goals as goal
use Rattle.widths.proofs.fit.read_as.Goals.{then-is_empty-via-then-is_empty, then-is_empty-via-else-is_empty+then-kind_of-kind}

pub returns-then-is_empty : goal.returns-then-is_empty
unfolding checked_as fault_number fault_place number place
returns-then-is_empty c =
    elim c.then-is_empty.branch [
      | then-is_empty-via-then-is_empty w ↦ sym (no_word _ _ (search (rules, tests)))
      | then-is_empty-via-else-is_empty+then-kind_of-kind w ↦ sym (other-kind _ _ (λ h. w.if-kind_of-kind.true (w.kind_of.ensures ∙ h)))
    ]

pub returns : goal.returns
returns c =
    checked-reading c.read.result c.map_err.result c.map_err.ensures.cases ∙ c.read.ensures
    ∙ sym (of-kind _ _ (sym c.kind_of.ensures ∙ c.if-kind_of-kind.false))
