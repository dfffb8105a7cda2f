use Prim.Native.Nat.{◌+◌}
use native.Mathlib.Omega.{arith}
use lib.ListN.{get_or}
use Rattle.fixpoint.specs.Grown.{Spent}
use Rattle.fixpoint.proofs.Grows.{tried-as, tried-more}
use Rattle.fixpoint.proofs.Tried.{few-of, some_word, stepped}
use Rattle.fixpoint.proofs.events.drain.Goals as goal

pub within-p-requires : goal.within-p-requires
within-p-requires c = some_word c.requires.0

pub step-added-requires : goal.step-added-requires
step-added-requires c = (c.requires.0, (c.loop-i.invariant 0).grown.sound.well c.requires.1, c.within-p.ensures.0)

pub loop-i-preserved : goal.loop-i-preserved
loop-i-preserved c ρ =
    let a = c.args in
    let at = c.choice_at-w.ensures in
    let place = c.choice_place.ensures.0 in
    tried-more (λ k xs. Spent a.words.now a.links.now a.l.size (get_or a.list.now (k + 1) 0) xs) _ (c.loop-i.invariant ρ)
    (tried-as (λ x h. rw (c.within-p.ensures.1 (omega (arith, h, place, at)), place, c.choice_clause-k.ensures.0, c.choice_target-f.ensures.0, at) at x)
    (stepped c.requires.0 _ _ _ c.within-p.ensures.0 c.step-added.ensures.fired ρ))

pub overflow_add-added : goal.overflow_add-added
overflow_add-added c = omega (arith, few-of c.requires.0 c.requires.1 (loop-i-preserved c 0).grown)

pub returns-then-room-added : goal.returns-then-room-added
returns-then-room-added c ρ = record { grown = (c.loop-i.invariant ρ).grown; nothing = λ w z. absurd (omega (arith, c.if-room-added.true)) }

pub returns : goal.returns
returns c ρ = tried-as (λ x k h. x k (omega (arith, h, c.loop-i-test.false, c.count-last.ensures.0))) (c.loop-i.invariant ρ)
