use mathlib.Core.Path.{sym, ◌∙◌}
use Prim.Native.Nat.{◌<◌}
use native.Mathlib.Omega.{arith}
use Rattle.manifest.proofs.Names.{named-at, named-behind, named-past, twice, bit-fits}
use Rattle.manifest.proofs.strings.set_among.Goals as goal

pub returns-then-spells : goal.returns-then-spells
returns-then-spells c =
    sym (c.loop-name.invariant.0 ∙ named-at _ _ c.args.names.now c.loop-name.name-index c.loop-name.bit _ c.loop-name-test.true (sym c.spells.ensures ∙ c.if-spells.true))

pub overflow_mul-bit : goal.overflow_mul-bit
overflow_mul-bit c =
    let h : c.loop-name.name-index < 31 = omega (arith, c.requires, c.loop-name-test.true) in
    omega (arith, bit-fits c.loop-name.name-index c.loop-name.bit c.loop-name.invariant.1 h)

pub loop-name-preserved : goal.loop-name-preserved
loop-name-preserved c =
    let i = c.loop-name in
    (i.invariant.0 ∙ named-behind _ _ c.args.names.now i.name-index i.bit _ c.loop-name-test.true (sym c.spells.ensures ∙ c.if-spells.false), twice i.name-index i.bit i.invariant.1)

pub returns : goal.returns
returns c = sym (c.loop-name.invariant.0 ∙ named-past _ _ c.args.names.now c.loop-name.name-index c.loop-name.bit c.loop-name-test.false)
