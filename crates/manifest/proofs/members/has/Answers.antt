use mathlib.Core.Path.{◌≡◌, sym, ap, ◌∙◌}
use mathlib.Core.Bool.{true}
use mathlib.Core.List.{List}
use Prim.Native.Nat.{ℕ, ◌+◌, ◌-◌}
use native.Mathlib.Omega.{arith}
use lib.ListN.{take, drop}
use Rattle.json_text.specs.Bytes.{starts}
use Rattle.json_text.specs.Strings.{units}
use Rattle.json_text.specs.Units.{matches}
use Rattle.json_text.specs.Values.{value, item}
use Rattle.manifest.specs.Members.{has}
use Rattle.manifest.proofs.Tops.{has-none, has_here, has-later, has_last, take_none}
use Rattle.manifest.proofs.members.has.Goals as goal

pub returns-then-same : goal.returns-then-same
returns-then-same c =
    let a = c.args in
    sym (c.loop.invariant ∙ has_here (item (value 15) true) _ (drop c.loop.member a.text.now) (a.count - c.loop.counter) (omega (arith, c.loop-test.true)) (ap (λ (bs : List ℕ). matches true (units bs) (units (drop a.key a.text.now))) (sym c.behind.ensures) ∙ sym c.same.ensures ∙ c.if-same.true))

pub returns-in_default : goal.returns-in_default
returns-in_default c =
    let a = c.args in
    sym (c.loop.invariant ∙ has_last (item (value 15) true) _ (drop c.loop.member a.text.now) (a.count - c.loop.counter) (omega (arith, c.loop-test.true)) c.in_default.ensures (ap (λ (bs : List ℕ). matches true (units bs) (units (drop a.key a.text.now))) (sym c.behind.ensures) ∙ sym c.same.ensures ∙ c.if-same.false))

pub loop-preserved : goal.loop-preserved
loop-preserved c =
    let a = c.args in
    let less : a.count - c.loop.counter - 1 ≡ a.count - (c.loop.counter + 1) = omega arith in
    c.loop.invariant
    ∙ has-later (item (value 15) true) _ (drop c.loop.member a.text.now) (a.count - c.loop.counter) (omega (arith, c.loop-test.true)) _ c.in-Some.ensures.0 (ap (λ (bs : List ℕ). matches true (units bs) (units (drop a.key a.text.now))) (sym c.behind.ensures) ∙ sym c.same.ensures ∙ c.if-same.false)
    ∙ ap (λ (n : ℕ). has (take n (starts (item (value 15) true) (drop c.in-Some.next a.text.now))) (units (drop a.key a.text.now))) less

pub returns : goal.returns
returns c =
    sym (c.loop.invariant ∙ ap (λ (l : List (List ℕ)). has l (units (drop c.args.key c.args.text.now))) (take_none (c.args.count - c.loop.counter) _ (omega arith)) ∙ has-none _)
