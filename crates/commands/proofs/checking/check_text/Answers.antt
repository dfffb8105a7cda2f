-- `commands::checking::check_text` meets its contract. Assumes nothing.
use Prim.Native.Nat.{ℕ}
use mathlib.Core.Path.{sym, ap, ap₂, subst, ◌∙◌}
use native.Mathlib.Omega.{arith}
use Rattle.text.proofs.Writing.{reworded}
use Rattle.listing.specs.Listing.{Answered, refusal, most}
use Rattle.listing.specs.Answer.{answered}
use Rattle.listing.proofs.Places.{Within, read-within}
use Rattle.commands.specs.Checked.{checked_text, check_text}
use Rattle.commands.proofs.checking.check_text.Goals as goal

pub refused_text-requires : goal.refused_text-requires
unfolding answered
refused_text-requires c =
    let e = sym c.read.ensures.answer ∙ ap answered c.in-Err.is in
    let h = subst (Within most) e (read-within c.args.input.now 1024) in
    (omega (arith, h, c.refusal_place.ensures), omega arith)

pub returns-in-Ok : goal.returns-in-Ok
unfolding answered check_text
returns-in-Ok c =
    let e = sym c.read.ensures.answer ∙ ap answered c.in-Ok.is in
    reworded (ap (λ (a : Answered). checked_text a c.args.input.now) (sym e)) c.accepted_text.ensures

pub returns-in-Err : goal.returns-in-Err
unfolding answered check_text
returns-in-Err c =
    let input = c.args.input.now in
    let e = sym c.read.ensures.answer ∙ ap answered c.in-Err.is in
    let same = ap₂ (λ (n p : ℕ). checked_text (refusal n p) input) c.refusal_number.ensures c.refusal_place.ensures in
    reworded (same ∙ ap (λ (a : Answered). checked_text a input) (sym e)) c.refused_text.ensures
