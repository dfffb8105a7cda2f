use Rattle.std.proofs.Common.{◌∙◌, sym, ap, rules, tests}
use Rattle.std.proofs.lemmas.Iterator.{YieldsList-from_slice}
use Rattle.std.proofs.lemmas.Iterator.Adapters.{position_from-zero}
use Rattle.std.proofs.lemmas.Iterator.Search.{position_from_yields_List}
use Rattle.widths.specs.Converters.{wide_name}
use Rattle.widths.specs.Answers.{fault_number, fault_place, checked_as}
use Rattle.widths.proofs.Refusals.{fit_at, fit-position}
use Rattle.widths.proofs.fit.names_fit.Goals as goal

pub returns-in-Some : goal.returns-in-Some
unfolding checked_as fault_number fault_place fit_at
returns-in-Some c =
    let ws = c.args.words.now in
    ap fit_at (sym c.in-Some.is
    ∙ position_from_yields_List wide_name _ _ c.position.result c.position.ensures.ran (YieldsList-from_slice ws cc) (λ x b q k. search (rules, tests))
    ∙ position_from-zero wide_name ws)
    ∙ fit-position ws 0

pub returns-in-None : goal.returns-in-None
unfolding checked_as fit_at
returns-in-None c =
    let ws = c.args.words.now in
    ap fit_at (sym c.in-None.is
    ∙ position_from_yields_List wide_name _ _ c.position.result c.position.ensures.ran (YieldsList-from_slice ws cc) (λ x b q k. search (rules, tests))
    ∙ position_from-zero wide_name ws)
    ∙ fit-position ws 0
