use Rattle.std.proofs.Common.{◌≡◌, ◌∙◌, sym, ap, arith, rules, Err}
use Rattle.widths.specs.Answers.{fault_number, fault_place, checked_as}
use Rattle.widths.proofs.Codes.{some_words}
use Rattle.widths.proofs.Refusals.{accepted-kind, not_wide, many-handlers, few-handlers}
use Rattle.widths.proofs.fit.check_narrow.Goals as goal

pub returns-in_err-read_as : goal.returns-in_err-read_as
unfolding checked_as
returns-in_err-read_as c =
    let passed : c.from_residual.result ≡ Err c.in_err-read_as.field-0.0 = search rules in
    ap checked_as passed ∙ sym (not_wide _ _ _ (sym c.read_as.ensures ∙ ap checked_as c.in_err-read_as.was))

pub bounds-words-0 : goal.bounds-words-0
unfolding checked_as
bounds-words-0 c = let h = some_words _ (accepted-kind 5 _ (sym c.read_as.ensures ∙ ap checked_as c.in_ok-read_as.was)).1 in omega arith

pub returns-then-argument_of-gt32 : goal.returns-then-argument_of-gt32
unfolding checked_as fault_number fault_place
returns-then-argument_of-gt32 c = sym (many-handlers _ (sym c.read_as.ensures ∙ ap checked_as c.in_ok-read_as.was) (omega (arith, c.argument_of.ensures)))

pub returns : goal.returns
unfolding checked_as
returns c = c.names_fit.ensures ∙ sym (few-handlers _ (sym c.read_as.ensures ∙ ap checked_as c.in_ok-read_as.was) (omega (arith, c.argument_of.ensures)))
