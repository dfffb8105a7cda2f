-- `commands::overlays::joined_text` meets its contract. Assumes nothing.
use mathlib.Core.Path.{sym, ap, ap₂, ◌∙◌}
use native.Mathlib.Omega.{arith}
use lib.ListN.{replicate}
use lib.Seq.{length-take-le}
use Rattle.overlay.specs.Answers.{joined_as}
use Rattle.overlay.proofs.Theorems.{joined-few, joined_words}
use Rattle.report.specs.Lines.{refusal_line}
use Rattle.text.proofs.Writing.{reworded}
use Rattle.commands.specs.Printed.{listing_text}
use Rattle.commands.proofs.PairLaws.{joined-refused, joined-listed}
use Rattle.commands.proofs.overlays.joined_text.Goals as goal

pub slice_bounds-words-end : goal.slice_bounds-words-end
unfolding joined_as
slice_bounds-words-end c =
    let j = c.join in
    omega (arith, joined-few c.args.base.now c.args.overlay.now (replicate 1024 0) _ (sym j.ensures.answer ∙ ap joined_as c.in-Ok.is), j.auto.out)

pub slice_bounds-listing_text-end : goal.slice_bounds-listing_text-end
unfolding joined_as
slice_bounds-listing_text-end c =
    let j = c.join in
    sym (length-take-le _ _ (omega (arith, joined-few c.args.base.now c.args.overlay.now (replicate 1024 0) _ (sym j.ensures.answer ∙ ap joined_as c.in-Ok.is), j.auto.out)))

pub returns-in-Ok : goal.returns-in-Ok
unfolding joined_as
returns-in-Ok c =
    let j = c.join in
    let e = sym j.ensures.answer ∙ ap joined_as c.in-Ok.is in
    reworded (ap listing_text (joined_words c.args.base.now c.args.overlay.now (replicate 1024 0) _ e _ j.ensures.out) ∙ joined-listed c.args.base.now c.args.overlay.now _ e) c.listing_text.ensures

pub returns-in-Err : goal.returns-in-Err
unfolding joined_as
returns-in-Err c =
    let j = c.join in
    let e = sym j.ensures.answer ∙ ap joined_as c.in-Err.is in
    reworded (ap₂ refusal_line c.fault_number.ensures c.fault_place.ensures ∙ joined-refused c.args.base.now c.args.overlay.now _ _ e) c.refusal_line.ensures.wrote
