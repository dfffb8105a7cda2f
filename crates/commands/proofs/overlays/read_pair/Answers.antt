-- `commands::overlays::read_pair` meets its contract. Assumes nothing.
use mathlib.Core.Path.{refl, sym, ap, ap₂, ◌∙◌}
use Prim.Native.Nat.{ℕ, ◌+◌}
use native.Mathlib.Omega.{arith}
use Rattle.listing.specs.Answer.{answered}
use Rattle.report.specs.Lines.{refusal_line}
use Rattle.commands.proofs.PairLaws.{number_small, first-refused, second-refused, both_read}
use Rattle.commands.proofs.overlays.read_pair.Goals as goal

pub overflow_add-result : goal.overflow_add-result
overflow_add-result c = omega (arith, c.refusal_number-in-Err-read.ensures, number_small c.in-Err-read.r)

pub returns-in-Err : goal.returns-in-Err
unfolding answered
returns-in-Err c =
    let e = sym c.read.ensures.answer ∙ ap answered c.in-Err.is in
    λ t. first-refused c.args.first.now c.args.second.now _ 1024 c.requires.0 refl _ _ e t ∙ sym (ap₂ refusal_line c.refusal_number.ensures c.refusal_place.ensures)

pub returns-in-Err-read : goal.returns-in-Err-read
unfolding answered
returns-in-Err-read c =
    let d = sym c.read.ensures.answer ∙ ap answered c.in-Ok.is in
    let e = sym c.read-in-Ok.ensures.answer ∙ ap answered c.in-Err-read.is in
    λ t. second-refused c.args.first.now c.args.second.now _ _ c.requires.0 c.requires.1 _ d _ _ e t
    ∙ sym (ap₂ (λ (n p : ℕ). refusal_line (100 + n) p) c.refusal_number-in-Err-read.ensures c.refusal_place-in-Err-read.ensures)

pub returns-in-Ok-read : goal.returns-in-Ok-read
unfolding answered
returns-in-Ok-read c =
    let d = sym c.read.ensures.answer ∙ ap answered c.in-Ok.is in
    let e = sym c.read-in-Ok.ensures.answer ∙ ap answered c.in-Ok-read.is in
    both_read c.args.first.now c.args.second.now _ _ c.requires.0 c.requires.1 _ d _ _ _ _ _ e c.read.ensures.words c.read-in-Ok.ensures.words
