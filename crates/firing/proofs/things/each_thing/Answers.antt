use mathlib.Core.Path.{sym, ◌∙◌}
use native.Mathlib.Omega.{arith}
use Rattle.rows.proofs.Laws.{facts-most}
use Rattle.firing.proofs.EachThing.{sized-again, searched, placed, made-start, made-step, made-end}
use Rattle.firing.proofs.things.each_thing.Goals as goal

pub next_thing-f-requires : goal.next_thing-f-requires
next_thing-f-requires c = (searched c.requires.1 c.requires.0, omega arith)

pub loop-f-init : goal.loop-f-init
loop-f-init c =
    (c.next_thing-f.ensures.found, (λ k o m. made-start c.requires.1 o m c.args.est.now _ c.next_thing-f.ensures), omega arith)

pub for_thing-added-requires : goal.for_thing-added-requires
for_thing-added-requires c =
    let i = c.loop-f in let g = c.loop-f-test.true in
    (sized-again c.requires.0 i.auto.est, placed c.requires.1 i.est i.f g (i.invariant.0 g))

pub overflow_add-added : goal.overflow_add-added
overflow_add-added c =
    let i = c.loop-f in
    omega (arith, c.for_thing-added.ensures.count, i.invariant.2, facts-most c.for_thing-added.new.est, c.for_thing-added.auto.est, i.auto.est, c.requires.0.short)

pub next_thing-f-requires-in-loop-f : goal.next_thing-f-requires-in-loop-f
next_thing-f-requires-in-loop-f c =
    (searched c.requires.1 (sized-again c.requires.0 (c.for_thing-added.auto.est ∙ c.loop-f.auto.est)), omega (arith, c.loop-f-test.true))

pub loop-f-preserved : goal.loop-f-preserved
loop-f-preserved c =
    let f = c.for_thing-added in let i = c.loop-f in let g = c.loop-f-test.true in (
      c.next_thing-f-in-loop-f.ensures.found,
      (λ k o m. made-step c.requires.1 o m i.est _ i.f _ g (i.invariant.0 g) (f.ensures.words k o tt) c.next_thing-f-in-loop-f.ensures ∙ i.invariant.1 k o m),
      omega (arith, f.ensures.count, i.invariant.2),
    )

pub returns : goal.returns
returns c =
    let i = c.loop-f in
    record { words = λ k o m. sym (made-end c.requires.1 o m i.est i.f (omega (arith, c.loop-f-test.false))) ∙ i.invariant.1 k o m; count = i.invariant.2 }
