use mathlib.Core.Path.{◌≡◌}
use native.Mathlib.Omega.{arith}
use Rattle.table.specs.Code.{code}
use Rattle.rows.proofs.Laws.{facts-most}
use Rattle.checker.proofs.Laws.{unbroken, broken-most, estimate-unbroken}
use Rattle.fixpoint.proofs.Grows.{grown-then}
use Rattle.fixpoint.proofs.Tried.{few-of}
use Rattle.fixpoint.proofs.closing.settle.Goals as goal

pub loop-added-preserved : goal.loop-added-preserved
loop-added-preserved c old g = grown-then (c.loop-added.invariant old g) c.sweep-added.ensures.grown

pub overflow_add-added : goal.overflow_add-added
overflow_add-added c = omega (arith, few-of c.requires.0 c.requires.1 (loop-added-preserved c _ c.follow-added.ensures))

pub loop-added-smaller : goal.loop-added-smaller
loop-added-smaller c =
    let w = c.sweep-added in
    let v = (c.loop-added.invariant _ c.follow-added.ensures).sound.well c.requires.1 in
    let m : w.result ≡ 0 → ⊥ =
    λ z. omega (arith, estimate-unbroken _ _ _ (w.ensures.nothing v z), c.broken.ensures, c.if-broken-l.true, c.requires.0.laid.size) in
    omega (arith, w.ensures.grown.count, w.auto.est, facts-most w.new.est)

pub returns-else-broken-l : goal.returns-else-broken-l
returns-else-broken-l c =
    let a = c.args in
    record {
      grown = c.loop-added.invariant _ c.follow-added.ensures;
      obeyed =
          λ z. unbroken (code a.words.now) a.rho.bits c.loop-added.est
          (omega (arith, c.broken.ensures, broken-most (code a.words.now) a.rho.bits c.loop-added.est, c.if-broken-l.false, c.requires.0.laid.size));
    }
