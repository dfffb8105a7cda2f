-- `firing::things::fire_things` meets its contract: past the table nothing is asked. Assumes nothing.
use mathlib.Core.Path.{sym, ◌∙◌}
use mathlib.Core.Bool.{true, false}
use native.Mathlib.Omega.{arith}
use Rattle.firing.proofs.EachThing.{searched, placed, thing-fired, past-table}
use Rattle.firing.proofs.Effects.{all-things, one-thing}
use Rattle.firing.proofs.things.fire_things.Goals as goal

pub returns-then-f-eq0 : goal.returns-then-f-eq0
returns-then-f-eq0 c =
    let a = c.args in let d = c.each_thing.ensures in
    record { words = λ k o m. d.words k o m.1 ∙ all-things k a.e a.f a.est.now c.if-f-eq0.true; count = d.count }

pub returns-then-l-f : goal.returns-then-l-f
returns-then-l-f c =
    let a = c.args in let e = a.e in
    record {
      words = λ k o m. sym (past-table m.0 e.what e.x e.y e.z a.f (omega (arith, c.if-l-f.true, o.size)) a.est.now) ∙ one-thing k e a.f a.est.now c.if-f-eq0.false;
      count = omega arith;
    }

pub has_thing-requires : goal.has_thing-requires
has_thing-requires c = (searched c.requires.1 c.requires.0, c.if-l-f.false)

pub for_thing-requires : goal.for_thing-requires
for_thing-requires c = (c.requires.0, placed c.requires.1 c.args.est.now c.args.f c.if-l-f.false (sym c.has_thing.ensures ∙ c.if-has_thing.true))

pub returns-then-has_thing : goal.returns-then-has_thing
returns-then-has_thing c =
    let d = c.for_thing.ensures in let a = c.args in let e = a.e in
    record {
      words =
          λ k o m. d.words k o tt
          ∙ sym (thing-fired c.requires.1 o m.1 a.est.now a.f true (omega (arith, c.if-l-f.false, o.size)) (sym c.has_thing.ensures ∙ c.if-has_thing.true))
          ∙ one-thing k e a.f a.est.now c.if-f-eq0.false;
      count = d.count;
    }

pub returns-else-has_thing : goal.returns-else-has_thing
returns-else-has_thing c =
    let a = c.args in let e = a.e in
    record {
      words =
          λ k o m. sym (thing-fired c.requires.1 o m.1 a.est.now a.f false (omega (arith, c.if-l-f.false, o.size)) (sym c.has_thing.ensures ∙ c.if-has_thing.false))
          ∙ one-thing k e a.f a.est.now c.if-f-eq0.false;
      count = omega arith;
    }
