use mathlib.Core.Bool.{not}
use mathlib.Core.Path.{ap}
use native.Mathlib.Omega.{arith}
use Rattle.clauses.specs.Asks.{sort_at}
use Rattle.checker.proofs.Blocks.{looked-start, looked-next, looked-all}
use Rattle.checker.proofs.Sent.{nothing-sent, something-sent}
use Rattle.checker.proofs.view.View.to_blocks.Goals as goal

pub returns-then-not-has_some : goal.returns-then-not-has_some
unfolding sort_at
returns-then-not-has_some c = let h = c.requires.0 in nothing-sent _ c.args.self.now.estimate.now _ _ _ (c.has_some.ensures _ (sort_at 3 _) h.laid h.well (h.masked.mask 3 (omega arith))) (ap not c.if-not-has_some.true)

pub loop-b-init : goal.loop-b-init
unfolding sort_at
loop-b-init c = looked-start _ c.requires.0.readable _

pub loop-b-smaller : goal.loop-b-smaller
unfolding sort_at
loop-b-smaller c = let g = c.loop-b-test.true in omega (arith, (looked-next _ c.requires.0.readable _ c.loop-b.invariant g c.requires.1 c.link_at-b.ensures c.to_block-lowest.ensures).1, g)

pub loop-b-preserved : goal.loop-b-preserved
unfolding sort_at
loop-b-preserved c = (looked-next _ c.requires.0.readable _ c.loop-b.invariant c.loop-b-test.true c.requires.1 c.link_at-b.ensures c.to_block-lowest.ensures).0

pub returns : goal.returns
unfolding sort_at
returns c = let h = c.requires.0 in something-sent _ c.args.self.now.estimate.now _ _ _ (c.has_some.ensures _ (sort_at 3 _) h.laid h.well (h.masked.mask 3 (omega arith))) (ap not c.if-not-has_some.false) (looked-all _ h.readable _ c.loop-b.invariant c.loop-b-test.false)
