use mathlib.Core.Path.{sym, ◌∙◌}
use Prim.Native.Nat.{◌<◌}
use native.Mathlib.Omega.{arith}
use lib.ListN.{length}
use Rattle.json_text.proofs.Places.{there}
use Rattle.json_text.proofs.Texts.{literal-over, literal-goes, literal-stops}
use Rattle.json_text.proofs.values.literal.Goals as goal

pub returns-then-byte-b : goal.returns-then-byte-b
returns-then-byte-b c =
    sym (c.loop-b.invariant ∙ literal-stops c.args.word.now c.args.text.now c.loop-b.b-index c.loop-b.p (omega (arith, c.loop-b-test.true)) _ c.byte.ensures c.if-byte-b.true)

pub overflow_add-p : goal.overflow_add-p
overflow_add-p c =
    let h : c.loop-b.p < length c.args.text.now = there c.args.text.now c.loop-b.p c.byte.ensures (omega (arith, c.type_inv.word c.loop-b.b-index)) in omega arith

pub loop-b-preserved : goal.loop-b-preserved
loop-b-preserved c =
    c.loop-b.invariant ∙ literal-goes c.args.word.now c.args.text.now c.loop-b.b-index c.loop-b.p (omega (arith, c.loop-b-test.true)) _ c.byte.ensures c.if-byte-b.false

pub returns : goal.returns
returns c =
    sym (c.loop-b.invariant ∙ literal-over c.args.word.now c.args.text.now c.loop-b.b-index c.loop-b.p c.loop-b-test.false)
