-- `overlay::lookup::lookup` meets its contract: the part that `find` names is the block.
-- Assumes nothing.
use mathlib.Core.Path.{◌≡◌, sym, ap, subst, ◌∙◌}
use mathlib.Core.List.{List}
use Prim.Native.Nat.{ℕ}
use borrow.Author.Rules.{rules}
use Rattle.std.specs.Prelude.{Result, Ok}
use Rattle.overlay.specs.declared.Fault.{Fault}
use Rattle.overlay.specs.declared.Found.{Found}
use Rattle.overlay.specs.Lookup.{place_of}
use Rattle.overlay.specs.Answers.{found_as}
use Rattle.overlay.proofs.Places.{Stands, place-stands}
use Rattle.overlay.proofs.lookup.lookup.Goals as goal

-- what the answer of `find` says of the two slices
answered : (base overlay : List ℕ) (name perms : ℕ) {q r : Result Found Fault} → found_as q ≡ place_of base overlay name perms → q ≡ r
    → Stands base overlay name perms (found_as r)
answered base overlay name perms e h = subst (Stands base overlay name perms) (sym e ∙ ap found_as h) (place-stands base overlay name perms)

pub offset_bounds-overlay-start : goal.offset_bounds-overlay-start
unfolding found_as
offset_bounds-overlay-start c =
    let a = c.args in
    let q = answered a.base.now a.overlay.now a.name a.perms c.find.ensures (c.in-Ok-Overlay.is ∙ ap Ok c.in-Ok-Overlay.field-0-is) in
    search rules

pub slice_bounds-result-count : goal.slice_bounds-result-count
unfolding found_as
slice_bounds-result-count c =
    let a = c.args in
    let q = answered a.base.now a.overlay.now a.name a.perms c.find.ensures (c.in-Ok-Overlay.is ∙ ap Ok c.in-Ok-Overlay.field-0-is) in
    search rules

pub slice_bounds-result-start : goal.slice_bounds-result-start
unfolding found_as
slice_bounds-result-start c =
    let a = c.args in
    let q = answered a.base.now a.overlay.now a.name a.perms c.find.ensures (c.in-Ok-Overlay.is ∙ ap Ok c.in-Ok-Overlay.field-0-is) in
    search rules

pub slice_bounds-result-end : goal.slice_bounds-result-end
unfolding found_as
slice_bounds-result-end c =
    let a = c.args in
    let q = answered a.base.now a.overlay.now a.name a.perms c.find.ensures (c.in-Ok-Overlay.is ∙ ap Ok c.in-Ok-Overlay.field-0-is) in
    search rules

pub offset_bounds-base-start : goal.offset_bounds-base-start
unfolding found_as
offset_bounds-base-start c =
    let a = c.args in
    let q = answered a.base.now a.overlay.now a.name a.perms c.find.ensures (c.in-Ok-Base.is ∙ ap Ok c.in-Ok-Base.field-0-is) in
    search rules

pub slice_bounds-result-count-in-Ok-Base : goal.slice_bounds-result-count-in-Ok-Base
unfolding found_as
slice_bounds-result-count-in-Ok-Base c =
    let a = c.args in
    let q = answered a.base.now a.overlay.now a.name a.perms c.find.ensures (c.in-Ok-Base.is ∙ ap Ok c.in-Ok-Base.field-0-is) in
    search rules

pub slice_bounds-result-start-in-Ok-Base : goal.slice_bounds-result-start-in-Ok-Base
unfolding found_as
slice_bounds-result-start-in-Ok-Base c =
    let a = c.args in
    let q = answered a.base.now a.overlay.now a.name a.perms c.find.ensures (c.in-Ok-Base.is ∙ ap Ok c.in-Ok-Base.field-0-is) in
    search rules

pub slice_bounds-result-end-in-Ok-Base : goal.slice_bounds-result-end-in-Ok-Base
unfolding found_as
slice_bounds-result-end-in-Ok-Base c =
    let a = c.args in
    let q = answered a.base.now a.overlay.now a.name a.perms c.find.ensures (c.in-Ok-Base.is ∙ ap Ok c.in-Ok-Base.field-0-is) in
    search rules

pub returns-in-Ok-Overlay : goal.returns-in-Ok-Overlay
unfolding found_as
returns-in-Ok-Overlay c = let a = c.args in (answered a.base.now a.overlay.now a.name a.perms c.find.ensures (c.in-Ok-Overlay.is ∙ ap Ok c.in-Ok-Overlay.field-0-is)).2

pub returns-in-Ok-Base : goal.returns-in-Ok-Base
unfolding found_as
returns-in-Ok-Base c = let a = c.args in (answered a.base.now a.overlay.now a.name a.perms c.find.ensures (c.in-Ok-Base.is ∙ ap Ok c.in-Ok-Base.field-0-is)).2

pub returns-in-Err : goal.returns-in-Err
unfolding found_as
returns-in-Err c = let a = c.args in sym (answered a.base.now a.overlay.now a.name a.perms c.find.ensures c.in-Err.is)
