use mathlib.Core.Path.{◌≡◌}
use native.Mathlib.Omega.{arith}
use Rattle.rows.proofs.Full.{none_yet, one_more}
use Rattle.rows.proofs.Laws.{facts-most}
use Rattle.queries.proofs.Laws.{row_in}
use Rattle.firing.proofs.Fires.{fill-fired}
use Rattle.firing.proofs.targets.fill.Goals as goal

pub loop-k-init : goal.loop-k-init
loop-k-init c = none_yet _ _

pub put_bits-added-requires : goal.put_bits-added-requires
put_bits-added-requires c = (omega (arith, row_in c.requires.0 c.args.r c.requires.1, c.loop-k.auto.est), omega (arith, c.loop-k-test.true, c.requires.0.wide, c.requires.0.lead))

pub overflow_add-added : goal.overflow_add-added
overflow_add-added c =
    let p = c.put_bits-added in let i = c.loop-k in
    omega (arith, i.invariant.count, p.ensures.count, facts-most p.new.est, p.auto.est, i.auto.est, c.requires.0.short)

pub loop-k-preserved : goal.loop-k-preserved
loop-k-preserved c = one_more _ _ _ _ _ _ _ c.loop-k.invariant c.put_bits-added.ensures

pub returns-clause-fired_for : goal.returns-clause-fired_for
returns-clause-fired_for c =
    let i = c.loop-k in let e : i.k ≡ c.args.l.lead = omega arith in
    fill-fired c.args.r c.requires.1 (rw e at i.invariant)
