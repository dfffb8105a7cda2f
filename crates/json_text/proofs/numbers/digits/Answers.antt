use mathlib.Core.Path.{sym, ap, ◌∙◌}
use Prim.Native.Nat.{◌<◌}
use native.Mathlib.Omega.{arith}
use lib.ListN.{length}
use Rattle.json_text.specs.Numbers.{is_digit, digits}
use Rattle.json_text.proofs.Places.{there, tail-drop, digit-small, digits_more, digits-end}
use Rattle.json_text.proofs.numbers.digits.Goals as goal

pub overflow_add-p : goal.overflow_add-p
overflow_add-p c = let h : c.loop-p.p < length c.args.text.now = there c.args.text.now c.loop-p.p c.byte.ensures (digit-small _ (sym c.is_within.ensures ∙ c.loop-p-test.true)) in omega arith

pub loop-p-smaller : goal.loop-p-smaller
loop-p-smaller c = let h : c.loop-p.p < length c.args.text.now = there c.args.text.now c.loop-p.p c.byte.ensures (digit-small _ (sym c.is_within.ensures ∙ c.loop-p-test.true)) in omega arith

pub loop-p-preserved : goal.loop-p-preserved
loop-p-preserved c =
    c.loop-p.invariant
    ∙ digits_more _ (ap is_digit (sym c.byte.ensures) ∙ sym c.is_within.ensures ∙ c.loop-p-test.true)
    ∙ ap digits (tail-drop c.args.text.now c.loop-p.p)

pub returns : goal.returns
returns c =
    sym (c.loop-p.invariant ∙ digits-end _ (ap is_digit (sym c.byte.ensures) ∙ sym c.is_within.ensures ∙ c.loop-p-test.false))
