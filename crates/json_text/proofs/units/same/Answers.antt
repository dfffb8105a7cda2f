use mathlib.Core.Path.{refl, sym, ◌∙◌}
use Rattle.json_text.proofs.Compared.{all-read, units-over, next-unit, other-unit}
use Rattle.json_text.proofs.units.same.Goals as goal

pub returns-in_default-next : goal.returns-in_default-next
returns-in_default-next c =
    sym (c.loop-next.invariant ∙ units-over _ _ _ c.in-Some.ensures c.in_default-next.ensures)

pub returns-then-against-next : goal.returns-then-against-next
returns-then-against-next c =
    sym (c.loop-next.invariant ∙ other-unit _ _ _ c.in-Some.ensures c.in-Some-next.ensures c.if-against-next.true)

pub loop-next-preserved : goal.loop-next-preserved
loop-next-preserved c =
    c.loop-next.invariant ∙ next-unit _ _ _ c.in-Some.ensures c.in-Some-next.ensures c.if-against-next.false

pub returns : goal.returns
returns c =
    all-read c.args.text.now _ _ _ _ _ refl c.in_default.ensures c.next-2.ensures c.is_none.ensures ∙ sym c.loop-next.invariant
