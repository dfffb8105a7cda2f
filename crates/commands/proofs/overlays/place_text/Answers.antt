-- `commands::overlays::place_text` meets its contract. Assumes nothing.
use mathlib.Core.Path.{sym, ap, ap₂, subst, ◌∙◌}
use native.Mathlib.Omega.{arith}
use Rattle.std.specs.Prelude.{Ok}
use Rattle.overlay.specs.Answers.{found_as}
use Rattle.overlay.proofs.Places.{Stands, place-stands}
use Rattle.report.specs.Lines.{refusal_line}
use Rattle.text.proofs.Writing.{reworded}
use Rattle.commands.specs.Printed.{place_text}
use Rattle.commands.proofs.overlays.place_text.Goals as goal

pub overflow_sub-e : goal.overflow_sub-e
unfolding found_as
overflow_sub-e c =
    let q = subst (Stands c.args.base.now c.args.overlay.now c.args.name c.args.perms) (sym c.find.ensures ∙ ap found_as (c.in-Ok.is ∙ ap Ok c.in-Base.is)) (place-stands c.args.base.now c.args.overlay.now c.args.name c.args.perms) in
    omega (arith, q.0)

pub overflow_sub-e-in-Overlay : goal.overflow_sub-e-in-Overlay
unfolding found_as
overflow_sub-e-in-Overlay c =
    let q = subst (Stands c.args.base.now c.args.overlay.now c.args.name c.args.perms) (sym c.find.ensures ∙ ap found_as (c.in-Ok.is ∙ ap Ok c.in-Overlay.is)) (place-stands c.args.base.now c.args.overlay.now c.args.name c.args.perms) in
    omega (arith, q.0)

pub returns-in-Base : goal.returns-in-Base
unfolding found_as place_text
returns-in-Base c =
    reworded (ap (place_text c.args.first.now c.args.second.now) (sym (ap found_as (c.in-Ok.is ∙ ap Ok c.in-Base.is)) ∙ c.find.ensures)) c.put_lines.ensures

pub returns-in-Overlay : goal.returns-in-Overlay
unfolding found_as place_text
returns-in-Overlay c =
    reworded (ap (place_text c.args.first.now c.args.second.now) (sym (ap found_as (c.in-Ok.is ∙ ap Ok c.in-Overlay.is)) ∙ c.find.ensures)) c.put_lines-in-Overlay.ensures

pub returns-in-Err : goal.returns-in-Err
unfolding found_as place_text
returns-in-Err c =
    reworded (ap₂ refusal_line c.fault_number.ensures c.fault_place.ensures ∙ ap (place_text c.args.first.now c.args.second.now) (sym (ap found_as c.in-Err.is) ∙ c.find.ensures)) c.refusal_line.ensures.wrote
