-- `commands::listings::listing_text` meets its contract. Assumes nothing.
use mathlib.Core.Path.{sym, ap, ◌∙◌, ap₂}
use native.Mathlib.Omega.{arith}
use Rattle.listing.specs.Answer.{answered}
use Rattle.report.specs.Lines.{refusal_line}
use Rattle.text.proofs.Writing.{reworded}
use Rattle.commands.proofs.Texts.{unchanged, listing-done, listing-refused, listing-left}
use Rattle.commands.proofs.listings.listing_text.Goals as goal

pub refusal_line-requires : goal.refusal_line-requires
refusal_line-requires c = let k = c.write.auto.out in omega arith

pub returns-in-Ok : goal.returns-in-Ok
unfolding answered
returns-in-Ok c =
    let w = c.write.ensures in
    listing-done c.args.words.now c.args.out.now _ c.requires w.text _ (sym w.answer ∙ ap answered c.in-Ok.is)

pub returns-in-Err : goal.returns-in-Err
unfolding answered
returns-in-Err c =
    let w = c.write.ensures in
    let e = sym w.answer ∙ ap answered c.in-Err.is in
    let line = ap₂ refusal_line c.refusal_number.ensures c.refusal_place.ensures in
    reworded (line ∙ listing-refused c.args.words.now c.args.out.now _ c.requires w.text _ _ e)
    (unchanged (listing-left c.args.words.now c.args.out.now _ c.requires w.text _ _ e) c.refusal_line.ensures.wrote)
