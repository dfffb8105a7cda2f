use native.Mathlib.Omega.{arith}
use Rattle.queries.proofs.Given.{sized}
use Rattle.fixpoint.proofs.Grows.{grown-then}
use Rattle.fixpoint.proofs.Tried.{accepted-of, few-of}
use Rattle.fixpoint.proofs.events.follow.Goals as goal

pub enter-added-requires : goal.enter-added-requires
enter-added-requires c =
    let w = c.loop-p.invariant.sound.well c.requires.1 in
    (accepted-of c.requires.0, sized c.requires.0 w, w, c.loop-p-test.true)

pub overflow_add-added : goal.overflow_add-added
overflow_add-added c = omega (arith, few-of c.requires.0 c.requires.1 (grown-then c.loop-p.invariant c.enter-added.ensures.grown))

pub overflow_add-p : goal.overflow_add-p
overflow_add-p c = omega (arith, (sized c.requires.0 c.requires.1).size, c.loop-p-test.true)

pub past-p-requires : goal.past-p-requires
past-p-requires c = omega (arith, (sized c.requires.0 c.requires.1).size, c.loop-p-test.true)

pub loop-p-preserved : goal.loop-p-preserved
loop-p-preserved c = grown-then c.loop-p.invariant c.enter-added.ensures.grown

pub overflow_add-result : goal.overflow_add-result
overflow_add-result c = omega (arith, few-of c.requires.0 c.requires.1 (grown-then c.loop-p.invariant (c.events.ensures _).grown))

pub returns : goal.returns
returns c = grown-then c.loop-p.invariant (c.events.ensures _).grown
