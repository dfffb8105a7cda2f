use Prim.Native.Nat.{ℕ, ◌+◌, ◌*◌, ◌%◌, ◌^◌, ◌≤◌}
use mathlib.Core.Path.{sym, ap, ◌∙◌}
use native.Mathlib.Omega.{arith}
use lib.ListN.{get_or, drop}
use Rattle.commands.specs.Arguments.{digit, folded}
use Rattle.commands.proofs.Digits.{folded-end, folded-digit, folded-other, value_none, value-long, value-short}
use borrow.Author.Rules.{rules}
use Rattle.commands.proofs.arguments.value_of.Goals as goal

pub returns-then-digits-eq0 : goal.returns-then-digits-eq0
returns-then-digits-eq0 c = sym (value_none c.args.base c.args.digits.now c.if-digits-eq0.true)

pub returns-then-digits-gt8 : goal.returns-then-digits-gt8
returns-then-digits-gt8 c = sym (value-long c.args.base c.args.digits.now (search rules))

pub loop-b-init : goal.loop-b-init
loop-b-init c = value-short c.args.base c.args.digits.now c.if-digits-eq0.false (omega arith)

pub returns-in_err-d : goal.returns-in_err-d
returns-in_err-d c =
    let l = c.loop-b in
    let none : 16 ≤ digit (get_or c.args.digits.now l.b-index 0) = c.in_err-d.ensures in
    c.from_residual.ensures ∙ sym (l.invariant ∙ folded-other c.args.base l.n c.args.digits.now l.b-index (omega arith) (omega (arith, none, c.requires)))

pub returns-then-base-d : goal.returns-then-base-d
returns-then-base-d c =
    let l = c.loop-b in
    let d = c.in_ok-d.ensures in
    sym (l.invariant ∙ folded-other c.args.base l.n c.args.digits.now l.b-index (omega arith) (omega (arith, d.0, c.if-base-d.true)))

pub with_digit-n-requires : goal.with_digit-n-requires
with_digit-n-requires c = let d = c.in_ok-d.ensures in (c.requires, omega (arith, d.1))

pub loop-b-preserved : goal.loop-b-preserved
loop-b-preserved c =
    let l = c.loop-b in
    let base = c.args.base in
    let digits = c.args.digits.now in
    let d = c.in_ok-d.ensures in
    l.invariant
    ∙ folded-digit base l.n digits l.b-index (omega arith) (omega (arith, d.0, c.if-base-d.false))
    ∙ ap (λ (k : ℕ). folded base k (drop (l.b-index + 1) digits)) (sym (c.with_digit-n.ensures ∙ ap (λ (k : ℕ). (l.n * base + k) % 2 ^ 32) d.0))

pub returns : goal.returns
returns c = let l = c.loop-b in sym (l.invariant ∙ folded-end c.args.base l.n c.args.digits.now l.b-index (omega arith))
