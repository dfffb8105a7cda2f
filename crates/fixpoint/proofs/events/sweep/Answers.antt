use native.Mathlib.Omega.{arith}
use Rattle.queries.proofs.Given.{sized}
use Rattle.fixpoint.proofs.Grows.{tried-as, tried_then, tried-more}
use Rattle.fixpoint.proofs.Tried.{accepted-of, few-of, chosen, Quiet, quiet-obeyed}
use Rattle.fixpoint.proofs.events.sweep.Goals as goal

pub overflow_mul-last : goal.overflow_mul-last
overflow_mul-last c = omega (arith, (sized c.requires.0 c.requires.1).size)

pub enter-requires : goal.enter-requires
enter-requires c =
    let w = c.loop-i.invariant.grown.sound.well c.requires.1 in
    (accepted-of c.requires.0, sized c.requires.0 w, w, omega (arith, c.loop-i-test.true))

pub loop-i-preserved : goal.loop-i-preserved
loop-i-preserved c =
    let d = c.events in
    let e = c.enter in
    let a = c.args in
    let h = c.loop-i-test.true in
    tried-more (Quiet a.words.now a.links.now a.rho.bits) _ c.loop-i.invariant
    (tried_then e.ensures (tried-as (chosen c.requires.0 _ _ _ c.loop-i.out _ (omega (arith, c.requires.2, c.loop-i.auto.out)) (omega arith) (sized c.requires.0 c.requires.1).size (omega arith) c.choice_word.ensures)
    (d.ensures a.rho.bits)))

pub overflow_add-added : goal.overflow_add-added
overflow_add-added c = omega (arith, few-of c.requires.0 c.requires.1 (loop-i-preserved c).grown)

pub overflow_add-added-in-loop-i : goal.overflow_add-added-in-loop-i
overflow_add-added-in-loop-i c = omega (arith, few-of c.requires.0 c.requires.1 (loop-i-preserved c).grown)

pub returns : goal.returns
returns c =
    let t = c.loop-i.invariant in
    record { grown = t.grown; nothing = λ w z. quiet-obeyed c.requires.0 c.args.rho.bits _ w c.loop-i-test.false (t.nothing w z) }
