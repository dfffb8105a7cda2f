-- `leaks::listing_leak` meets its contract. Assumes nothing.
use mathlib.Core.Path.{sym, ap, ap₂, ◌∙◌}
use native.Mathlib.Omega.{arith}
use lib.ListN.{replicate, length-take}
use lib.Seq.{length-take-le}
use Rattle.text.proofs.Writing.{reworded}
use Rattle.listing.specs.Answer.{answered}
use Rattle.listing.proofs.Places.{read-few, read-words}
use Rattle.report.specs.Lines.{refusal_line}
use Rattle.leaks.specs.Leak.{system_leak}
use Rattle.leaks.proofs.Laws.{leak-listed, leak-refused}
use Rattle.leaks.proofs.listing_leak.Goals as goal

pub slice_bounds-words-end : goal.slice_bounds-words-end
unfolding answered
slice_bounds-words-end c =
    let r = c.read in
    omega (arith, read-few c.args.input.now _ (sym r.ensures.answer ∙ ap answered c.in-Ok.is), r.auto.out)

pub slice_bounds-system_leak-end : goal.slice_bounds-system_leak-end
unfolding answered
slice_bounds-system_leak-end c =
    let r = c.read in
    sym (length-take-le _ _ (omega (arith, read-few c.args.input.now _ (sym r.ensures.answer ∙ ap answered c.in-Ok.is), r.auto.out)))

pub system_leak-requires : goal.system_leak-requires
unfolding answered
system_leak-requires c =
    let r = c.read in
    let few = read-few c.args.input.now c.in-Ok.n (sym r.ensures.answer ∙ ap answered c.in-Ok.is) in
    (omega (arith, few, length-take c.in-Ok.n r.new.out), omega arith)

pub returns-in-Ok : goal.returns-in-Ok
unfolding answered
returns-in-Ok c =
    let a = c.args in
    let r = c.read in
    let e = sym r.ensures.answer ∙ ap answered c.in-Ok.is in
    reworded
    (ap (system_leak a.rho a.bound a.ceiling) (read-words a.input.now r.new.out (replicate 1024 0) _ e r.ensures.words)
    ∙ leak-listed a.rho a.bound a.ceiling a.input.now _ e)
    c.system_leak.ensures

pub returns-in-Err : goal.returns-in-Err
unfolding answered
returns-in-Err c =
    let a = c.args in
    let e = sym c.read.ensures.answer ∙ ap answered c.in-Err.is in
    let line = ap₂ refusal_line c.refusal_number.ensures c.refusal_place.ensures in
    reworded (line ∙ leak-refused a.rho a.bound a.ceiling a.input.now _ _ e) c.refusal_line.ensures.wrote
