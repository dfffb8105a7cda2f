-- `commands::converters::converted_text` meets its contract. Assumes nothing.
use mathlib.Core.Path.{sym, ap, ap₂, ◌∙◌}
use native.Mathlib.Omega.{arith}
use lib.ListN.{replicate}
use lib.Seq.{length-take-le}
use Rattle.widths.specs.Answers.{converted_as}
use Rattle.widths.proofs.Theorems.{written-few}
use Rattle.report.specs.Lines.{refusal_line}
use Rattle.text.proofs.Writing.{reworded}
use Rattle.commands.proofs.Conversions.{converted-refused, converted-done}
use Rattle.commands.proofs.converters.converted_text.Goals as goal

pub slice_bounds-converted-end : goal.slice_bounds-converted-end
unfolding converted_as
slice_bounds-converted-end c =
    let j = c.convert in
    omega (arith, written-few c.args.wide c.args.words.now (replicate 1024 0) _ (sym j.ensures.answer ∙ ap converted_as c.in-Ok.is), j.auto.out)

pub slice_bounds-bytes_of-end : goal.slice_bounds-bytes_of-end
unfolding converted_as
slice_bounds-bytes_of-end c =
    let j = c.convert in
    sym (length-take-le _ _ (omega (arith, written-few c.args.wide c.args.words.now (replicate 1024 0) _ (sym j.ensures.answer ∙ ap converted_as c.in-Ok.is), j.auto.out)))

pub returns-in-Ok : goal.returns-in-Ok
unfolding converted_as
returns-in-Ok c =
    let j = c.convert in
    let w = c.bytes_of in
    converted-done c.args.wide c.args.words.now _ (sym j.ensures.answer ∙ ap converted_as c.in-Ok.is) j.new.out c.args.out.now _ _ j.ensures.out c.requires w.ensures.count w.ensures.content

pub returns-in-Err : goal.returns-in-Err
unfolding converted_as
returns-in-Err c =
    let j = c.convert in
    let e = sym j.ensures.answer ∙ ap converted_as c.in-Err.is in
    reworded (ap₂ refusal_line c.fault_number.ensures c.fault_place.ensures ∙ converted-refused c.args.wide c.args.words.now _ _ e) c.refusal_line.ensures.wrote
