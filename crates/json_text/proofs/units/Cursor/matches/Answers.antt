use mathlib.Core.Path.{sym, ap, ◌∙◌}
use mathlib.Core.Bool.{not}
use native.Mathlib.Omega.{arith}
use lib.ListN.{drop_of_length-le}
use Rattle.json_text.proofs.Places.{drop_at}
use Rattle.json_text.proofs.Compared.{not-whole, all-read, units-over, next-unit, other-unit}
use Rattle.json_text.proofs.units.Cursor.matches.Goals as goal

pub returns-in_default : goal.returns-in_default
returns-in_default c =
    sym (c.loop-b.invariant ∙ units-over _ _ _ (drop_at c.args.word.now c.loop-b.b-index (omega (arith, c.loop-b-test.true))) c.in_default.ensures)

pub returns-then-next-b : goal.returns-then-next-b
returns-then-next-b c =
    sym (c.loop-b.invariant ∙ other-unit _ _ _ (drop_at c.args.word.now c.loop-b.b-index (omega (arith, c.loop-b-test.true))) c.in-Some.ensures c.if-next-b.true)

pub loop-b-preserved : goal.loop-b-preserved
loop-b-preserved c =
    c.loop-b.invariant ∙ next-unit _ _ _ (drop_at c.args.word.now c.loop-b.b-index (omega (arith, c.loop-b-test.true))) c.in-Some.ensures c.if-next-b.false

pub returns-then-not-whole : goal.returns-then-not-whole
returns-then-not-whole c =
    ap not c.if-not-whole.true ∙ sym (c.loop-b.invariant ∙ not-whole _ _ _ c.if-not-whole.true (drop_of_length-le c.args.word.now c.loop-b-test.false))

pub returns-else-not-whole : goal.returns-else-not-whole
returns-else-not-whole c =
    all-read c.args.text.now _ _ _ _ _ c.if-not-whole.false (drop_of_length-le c.args.word.now c.loop-b-test.false) c.next-else-not-whole.ensures c.is_none.ensures
    ∙ sym c.loop-b.invariant
