-- `overlay::lookup::find` meets its contract.
-- Assumes nothing.
use mathlib.Core.Path.{◌≡◌, refl, sym, ap, ◌∙◌}
use borrow.Author.Rules.{rules}
use Rattle.std.specs.Prelude.{Err}
use Rattle.overlay.specs.Lookup.{nothing, found, in_base, in_overlay}
use Rattle.overlay.specs.Answers.{fault_number, fault_place, found_as, checked_as}
use Rattle.overlay.proofs.Refusals.{tables-accepted, checked-accepted}
use Rattle.overlay.proofs.Places.{at-span, no_span, place-refused, place_found}
use Rattle.overlay.proofs.lookup.find.Goals as goal

pub returns-in_err-check : goal.returns-in_err-check
unfolding found_as checked_as
returns-in_err-check c =
    let passed : c.from_residual.result ≡ Err c.in_err-check.field-0.0 = search rules in
    ap found_as passed ∙ sym (place-refused _ _ _ _ _ _ (sym c.check.ensures ∙ ap checked_as c.in_err-check.was))

pub seek-requires : goal.seek-requires
seek-requires c = let t = tables-accepted _ _ (checked-accepted _ _ c.check.ensures c.in_ok-check.was) in let b = t.0 in let o = t.1 in cc

pub returns-in-Some : goal.returns-in-Some
unfolding found_as
returns-in-Some c =
    let q = at-span _ _ _ (sym c.seek.ensures ∙ c.in-Some.is) in
    sym (place_found _ _ _ _ (checked-accepted _ _ c.check.ensures c.in_ok-check.was) _ (found _ q.0) refl q.1 ∙ ap (in_overlay c.in-Some.start) (sym q.2))

pub seek-requires-2 : goal.seek-requires-2
seek-requires-2 c = let t = tables-accepted _ _ (checked-accepted _ _ c.check.ensures c.in_ok-check.was) in let b = t.0 in let o = t.1 in cc

pub returns-in-Some-seek : goal.returns-in-Some-seek
unfolding found_as
returns-in-Some-seek c =
    let o = no_span _ (sym c.seek.ensures ∙ c.in_default.is) in
    let q = at-span _ _ _ (sym c.seek-2.ensures ∙ c.in-Some-seek.is) in
    sym (place_found _ _ _ _ (checked-accepted _ _ c.check.ensures c.in_ok-check.was) (found _ q.0) nothing q.1 o ∙ ap (in_base c.in-Some-seek.start) (sym q.2))

pub returns-in-None : goal.returns-in-None
unfolding found_as fault_number fault_place
returns-in-None c =
    let o = no_span _ (sym c.seek.ensures ∙ c.in_default.is) in
    let b = no_span _ (sym c.seek-2.ensures ∙ c.in-None.is) in
    sym (place_found _ _ _ _ (checked-accepted _ _ c.check.ensures c.in_ok-check.was) nothing nothing b o)
