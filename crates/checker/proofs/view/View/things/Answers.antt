use mathlib.Core.Bool.{not}
use mathlib.Core.Path.{ap}
use native.Mathlib.Omega.{arith}
use Rattle.checker.proofs.Found.{suits, may-search, body-in, looked-start, looked-more, all-passed, one-fails}
use Rattle.checker.proofs.view.View.things.Goals as goal

pub next_thing-f-requires : goal.next_thing-f-requires
next_thing-f-requires c = (may-search c.args.p c.args.self.now.sized c.requires.0 (suits c.args.action c.args.m c.requires.3).0 c.requires.2, omega arith)

pub thing-requires : goal.thing-requires
thing-requires c = let u = suits c.args.action c.args.m c.requires.3 in let g = c.loop-f-test.true in (omega (arith, c.requires.0), c.requires.1, g, λ e. body-in c.args.p c.args.self.now.sized c.requires.0 u.0 c.requires.2 (u.1 e) c.loop-f.f g (c.loop-f.invariant.found g))

pub next_thing-f-requires-in-loop-f : goal.next_thing-f-requires-in-loop-f
next_thing-f-requires-in-loop-f c = (may-search c.args.p c.args.self.now.sized c.requires.0 (suits c.args.action c.args.m c.requires.3).0 c.requires.2, omega arith)

pub loop-f-init : goal.loop-f-init
loop-f-init c = looked-start c.next_thing-f.ensures

pub returns-then-not-thing : goal.returns-then-not-thing
returns-then-not-thing c = one-fails c.args.p c.args.self.now.sized c.requires.0 (suits c.args.action c.args.m c.requires.3).0 c.loop-f.invariant c.loop-f-test.true c.thing.ensures (ap not c.if-not-thing.true)

pub loop-f-smaller : goal.loop-f-smaller
loop-f-smaller c = omega (arith, c.next_thing-f-in-loop-f.ensures.later)

pub loop-f-preserved : goal.loop-f-preserved
loop-f-preserved c = looked-more c.loop-f.invariant c.thing.ensures (ap not c.if-not-thing.false) c.next_thing-f-in-loop-f.ensures

pub returns : goal.returns
returns c = all-passed c.args.p c.args.self.now.sized c.requires.0 (suits c.args.action c.args.m c.requires.3).0 c.loop-f.invariant c.loop-f-test.false
