-- `firing::sends::deliver` meets its contract. Assumes nothing.
use native.Mathlib.Omega.{arith}
use Rattle.rows.proofs.Laws.{facts-most}
use Rattle.firing.proofs.Fires.{and_then, three_fit}
use Rattle.firing.proofs.Deliver.{live-well}
use Rattle.firing.proofs.sends.deliver.Goals as goal

pub overflow_add-delivered-2 : goal.overflow_add-delivered-2
overflow_add-delivered-2 c =
    let w = c.wake-started in let p = c.pass-passed in let t = c.lift in
    omega (arith, three_fit c.requires.0 w.ensures.fired_in p.ensures t.ensures w.auto.est p.auto.est t.auto.est)

pub overflow_add-delivered : goal.overflow_add-delivered
overflow_add-delivered c = omega (arith, overflow_add-delivered-2 c)

pub overflow_add-result : goal.overflow_add-result
overflow_add-result c =
    omega (arith, c.wake-started.ensures.fired_in.count, c.pass-passed.ensures.count, c.lift.ensures.count, c.mark.ensures.count, facts-most c.mark.new.est, c.mark.auto.est, c.lift.auto.est, c.pass-passed.auto.est, c.wake-started.auto.est, c.requires.0.short)

pub returns : goal.returns
returns c =
    and_then
    (and_then c.wake-started.ensures.fired_in (and_then c.pass-passed.ensures c.lift.ensures (λ k o x. (x, λ e. tt)))
    (λ k o x. (tt, λ e. (live-well k c.args.b (omega (arith, c.requires.3, o.size)) c.args.est.now _ x.0 e, x.1))))
    c.mark.ensures (λ k o x. (x, λ e. tt))
