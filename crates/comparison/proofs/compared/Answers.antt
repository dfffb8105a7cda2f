-- `comparison::compared` meets its contract: within the bound nothing is outside. Assumes nothing.
use Prim.Native.Nat.{ℕ}
use mathlib.Core.Path.{sym, ap, ◌∙◌}
use mathlib.Core.Bool.{true}
use Rattle.permset.specs.declared.PermSet.{PermSet}
use Rattle.permset.specs.Sets.{lowest}
use Rattle.calculus.specs.Answer.{verdict}
use Rattle.comparison.specs.Values.{answer_of}
use Rattle.comparison.proofs.Bounds.{within-bound, over-bound}
use Rattle.comparison.proofs.compared.Goals as goal

pub returns-then-within : goal.returns-then-within
unfolding answer_of
returns-then-within c = within-bound _ _ _ (sym c.within.ensures ∙ c.if-within.true)

pub returns : goal.returns
unfolding answer_of
returns c =
    let a = c.args in
    ap (λ (f : ℕ). verdict (record { leak = a.found.leak.bits; bound = a.bound.bits; over = true; first = f; facts = a.found.facts }))
    (c.lowest.ensures ∙ ap (λ (s : PermSet). lowest s.bits) c.difference-outside.ensures)
    ∙ over-bound _ _ _ (sym c.within.ensures ∙ c.if-within.false)
