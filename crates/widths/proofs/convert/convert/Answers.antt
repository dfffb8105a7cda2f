use Rattle.std.proofs.Common.{◌≡◌, ◌∙◌, sym, ap, arith, rules, Err, true, false}
use Rattle.widths.specs.Converters.{convertible}
use Rattle.widths.specs.Answers.{converted_as, checked_as}
use Rattle.widths.proofs.Codes.{some_words}
use Rattle.widths.proofs.Refusals.{accepted-kind, halted, goes-on}
use Rattle.widths.proofs.Theorems.{wide-table}
use Rattle.widths.proofs.convert.convert.Goals as goal

pub returns-in_err-read_as : goal.returns-in_err-read_as
unfolding converted_as checked_as convertible
returns-in_err-read_as c =
    let passed : c.from_residual.result ≡ Err c.in_err-read_as.field-0.0 = search rules in
    let q = halted true c.args.words.now c.args.out.now _ _ (sym c.read_as.ensures ∙ ap checked_as c.in_err-read_as.was) in
    rw c.if-wide.true record { answer = ap converted_as passed ∙ sym q.0; out = sym q.1 }

pub put-requires : goal.put-requires
unfolding checked_as
put-requires c =
    (some_words _ (accepted-kind 1 _ (sym c.read_as.ensures ∙ ap checked_as c.in_ok-read_as.was)).1, omega arith)

pub returns-in_ok-read_as : goal.returns-in_ok-read_as
unfolding checked_as convertible
returns-in_ok-read_as c =
    let q = goes-on true c.args.words.now c.args.out.now (sym c.read_as.ensures ∙ ap checked_as c.in_ok-read_as.was) in
    rw c.if-wide.true record { answer = c.put.ensures.answer ∙ sym q.0; out = c.put.ensures.out ∙ sym q.1 }

pub returns-in_err-check_narrow : goal.returns-in_err-check_narrow
unfolding converted_as checked_as convertible
returns-in_err-check_narrow c =
    let passed : c.from_residual-in_err-check_narrow.result ≡ Err c.in_err-check_narrow.field-0.0 = search rules in
    let q = halted false c.args.words.now c.args.out.now _ _ (sym c.check_narrow.ensures ∙ ap checked_as c.in_err-check_narrow.was) in
    rw c.if-wide.false record { answer = ap converted_as passed ∙ sym q.0; out = sym q.1 }

pub put-requires-else-wide : goal.put-requires-else-wide
unfolding checked_as
put-requires-else-wide c =
    (some_words _ (wide-table _ (sym c.check_narrow.ensures ∙ ap checked_as c.in_ok-check_narrow.was)).1, omega arith)

pub returns-in_ok-check_narrow : goal.returns-in_ok-check_narrow
unfolding checked_as convertible
returns-in_ok-check_narrow c =
    let q = goes-on false c.args.words.now c.args.out.now (sym c.check_narrow.ensures ∙ ap checked_as c.in_ok-check_narrow.was) in
    rw c.if-wide.false record { answer = c.put-else-wide.ensures.answer ∙ sym q.0; out = c.put-else-wide.ensures.out ∙ sym q.1 }
