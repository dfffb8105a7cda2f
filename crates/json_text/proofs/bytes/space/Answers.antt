use mathlib.Core.Path.{sym, ap, ◌∙◌}
use Prim.Native.Nat.{◌<◌}
use native.Mathlib.Omega.{arith}
use lib.ListN.{length}
use Rattle.json_text.specs.Bytes.{is_space, space}
use Rattle.json_text.proofs.Places.{there, tail-drop, space-small, space-more, space-end}
use Rattle.json_text.proofs.bytes.space.Goals as goal

pub overflow_add-p : goal.overflow_add-p
overflow_add-p c = let h : c.loop-p.p < length c.args.text.now = there c.args.text.now c.loop-p.p c.byte.ensures (space-small _ (sym c.is_space.ensures ∙ c.loop-p-test.true)) in omega arith

pub loop-p-smaller : goal.loop-p-smaller
loop-p-smaller c = let h : c.loop-p.p < length c.args.text.now = there c.args.text.now c.loop-p.p c.byte.ensures (space-small _ (sym c.is_space.ensures ∙ c.loop-p-test.true)) in omega arith

pub loop-p-preserved : goal.loop-p-preserved
loop-p-preserved c =
    c.loop-p.invariant
    ∙ space-more _ (ap is_space (sym c.byte.ensures) ∙ sym c.is_space.ensures ∙ c.loop-p-test.true)
    ∙ ap space (tail-drop c.args.text.now c.loop-p.p)

pub returns : goal.returns
returns c =
    sym (c.loop-p.invariant ∙ space-end _ (ap is_space (sym c.byte.ensures) ∙ sym c.is_space.ensures ∙ c.loop-p-test.false))
