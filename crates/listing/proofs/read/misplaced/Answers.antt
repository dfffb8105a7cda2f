use Prim.Native.Nat.{ℕ, ◌+◌, ◌*◌}
use mathlib.Core.Path.{sym, ap, ap₂, ◌∙◌}
use mathlib.Core.Logic.{inl, inr, ⊎_elim}
use native.Mathlib.Omega.{arith}
use Rattle.listing.specs.Listing.{misplaced}
use Rattle.listing.proofs.Answers.{misplaced-here, misplaced-next, misplaced-end}
use Rattle.listing.proofs.read.misplaced.Goals as goal

pub returns-then-space-from : goal.returns-then-space-from
returns-then-space-from c =
    let l = c.loop-i in
    let s = c.in-Some.ensures.steps in
    let other = misplaced-here (l.i-iterator.count + 1) c.in-Some.depth.now c.in-Some.space.now _ _
    (λ e. c.if-space-from.true (e ∙ ap (λ (d : ℕ). 2 * d) (sym c.from.ensures))) in
    (ap (λ (n : ℕ). n + 1) s.1 ∙ sym (l.invariant ∙ ap₂ (misplaced (l.i-iterator.count + 1)) s.0.0 s.0.1 ∙ other), omega arith)

pub loop-i-preserved : goal.loop-i-preserved
loop-i-preserved c =
    let l = c.loop-i in
    let s = c.in-Some.ensures.steps in
    let next = misplaced-next (l.i-iterator.count + 1) c.in-Some.depth.now c.in-Some.space.now _ _
    (c.if-space-from.false ∙ ap (λ (d : ℕ). 2 * d) c.from.ensures) in
    l.invariant
    ∙ ap₂ (misplaced (l.i-iterator.count + 1)) s.0.0 s.0.1
    ∙ next
    ∙ ap (λ (n : ℕ). misplaced (n + 1) c.next.new.self.iter.a.rest.now c.next.new.self.iter.b.rest.now) (sym s.2)

pub returns : goal.returns
returns c =
    let l = c.loop-i in
    l.invariant ∙ misplaced-end (l.i-iterator.count + 1) _ _ (⊎_elim (λ h. inl h.1.0) (λ h. inr h.1.0) c.in-None.ensures.steps.0)
