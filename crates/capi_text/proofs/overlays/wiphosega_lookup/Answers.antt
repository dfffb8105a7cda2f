-- `capi_text::overlays::wiphosega_lookup` meets its contract. Assumes nothing.
use Prim.Native.Nat.{ℕ, ◌+◌, ◌*◌, ◌^◌}
use mathlib.Core.Path.{sym, ap, ap₂, subst, ◌∙◌}
use native.Mathlib.Omega.{arith}
use Rattle.std.specs.Prelude.{Ok}
use Rattle.overlay.specs.Answers.{found_as}
use Rattle.capi_text.specs.Overlay.{OddAs, place_number}
use Rattle.capi_text.proofs.TwoTables.{Inside, place-small, lookup-odd-number, lookup-even}
use Rattle.capi_text.proofs.overlays.wiphosega_lookup.Goals as goal

pub returns-in-Some : goal.returns-in-Some
returns-in-Some c =
    let a = c.args in
    let o = subst (OddAs a.base.now a.overlay.now) c.in-Some.is c.odd_number.ensures in
    c.refusal.ensures ∙ lookup-odd-number a.base.now a.overlay.now _ o.0 o.1 a.name a.perms

pub part_answer-requires : goal.part_answer-requires
unfolding found_as
part_answer-requires c =
    subst Inside (sym c.find_in.ensures ∙ ap found_as (c.in-Ok.is ∙ ap Ok c.in-Base.is)) (place-small _ _ _ _)

pub part_answer-requires-in-Overlay : goal.part_answer-requires-in-Overlay
unfolding found_as
part_answer-requires-in-Overlay c =
    subst Inside (sym c.find_in.ensures ∙ ap found_as (c.in-Ok.is ∙ ap Ok c.in-Overlay.is)) (place-small _ _ _ _)

pub overflow_add-result : goal.overflow_add-result
unfolding found_as
overflow_add-result c =
    let q = subst Inside (sym c.find_in.ensures ∙ ap found_as (c.in-Ok.is ∙ ap Ok c.in-Overlay.is)) (place-small _ _ _ _) in
    omega (arith, c.part_answer-in-Overlay.ensures, q.0, q.1)

pub refusal-requires-in-Err : goal.refusal-requires-in-Err
unfolding found_as
refusal-requires-in-Err c =
    let q = subst Inside (sym c.find_in.ensures ∙ ap found_as c.in-Err.is) (place-small _ _ _ _) in
    omega (arith, q.1, c.fault_place.ensures)

pub returns-in-Base : goal.returns-in-Base
unfolding place_number found_as
returns-in-Base c =
    let a = c.args in
    let even = subst (OddAs a.base.now a.overlay.now) c.in_default.is c.odd_number.ensures in
    c.part_answer.ensures
    ∙ ap place_number (sym (ap found_as (c.in-Ok.is ∙ ap Ok c.in-Base.is)) ∙ c.find_in.ensures ∙ sym (lookup-even a.base.now a.overlay.now even a.name a.perms))

pub returns-in-Overlay : goal.returns-in-Overlay
unfolding place_number found_as
returns-in-Overlay c =
    let a = c.args in
    let even = subst (OddAs a.base.now a.overlay.now) c.in_default.is c.odd_number.ensures in
    let e = ap place_number (sym (ap found_as (c.in-Ok.is ∙ ap Ok c.in-Overlay.is)) ∙ c.find_in.ensures ∙ sym (lookup-even a.base.now a.overlay.now even a.name a.perms)) in
    omega (arith, c.part_answer-in-Overlay.ensures, e)

pub returns-in-Err : goal.returns-in-Err
unfolding place_number found_as
returns-in-Err c =
    let a = c.args in
    let even = subst (OddAs a.base.now a.overlay.now) c.in_default.is c.odd_number.ensures in
    c.refusal-in-Err.ensures
    ∙ ap₂ (λ (n p : ℕ). 2 ^ 32 + n * 65536 + p) c.fault_number.ensures c.fault_place.ensures
    ∙ ap place_number (sym (ap found_as c.in-Err.is) ∙ c.find_in.ensures ∙ sym (lookup-even a.base.now a.overlay.now even a.name a.perms))
