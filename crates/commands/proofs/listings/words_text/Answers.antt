-- `commands::listings::words_text` meets its contract. Assumes nothing.
use mathlib.Core.Path.{sym, ap, ◌∙◌, ap₂}
use native.Mathlib.Omega.{arith}
use Rattle.listing.specs.Answer.{answered}
use lib.ListN.{replicate}
use lib.Seq.{length-take-le}
use Rattle.listing.proofs.Places.{read-few}
use Rattle.report.specs.Lines.{refusal_line}
use Rattle.text.proofs.Writing.{reworded}
use Rattle.commands.proofs.Texts.{words-done, words-refused}
use Rattle.commands.proofs.listings.words_text.Goals as goal

pub slice_bounds-words-end : goal.slice_bounds-words-end
unfolding answered
slice_bounds-words-end c =
    let r = c.read in
    omega (arith, read-few c.args.input.now _ (sym r.ensures.answer ∙ ap answered c.in-Ok.is), r.auto.out)

pub slice_bounds-bytes_of-end : goal.slice_bounds-bytes_of-end
unfolding answered
slice_bounds-bytes_of-end c =
    let r = c.read in
    sym (length-take-le _ _ (omega (arith, read-few c.args.input.now _ (sym r.ensures.answer ∙ ap answered c.in-Ok.is), r.auto.out)))

pub overflow_mul-result : goal.overflow_mul-result
unfolding answered
overflow_mul-result c = let w = c.bytes_of.ensures.count in omega arith

pub returns-in-Ok : goal.returns-in-Ok
unfolding answered
returns-in-Ok c =
    let r = c.read in
    let w = c.bytes_of in
    words-done c.args.input.now r.new.out (replicate 1024 0) c.args.out.now _ _ _ (sym r.ensures.answer ∙ ap answered c.in-Ok.is) r.ensures.words c.requires w.ensures.count w.ensures.content

pub returns-in-Err : goal.returns-in-Err
unfolding answered
returns-in-Err c =
    let r = c.read in
    let e = sym r.ensures.answer ∙ ap answered c.in-Err.is in
    reworded (ap₂ refusal_line c.refusal_number.ensures c.refusal_place.ensures ∙ words-refused c.args.input.now _ _ e) c.refusal_line.ensures.wrote
