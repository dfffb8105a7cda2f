-- `queries::holds` meets its contract: an arm for each test. Assumes nothing.
use mathlib.Core.Path.{ap, ◌∙◌}
use Rattle.queries.specs.Passes.{passes, by_mask}
use Rattle.clauses.proofs.Sorts.{row-C}
use Rattle.queries.proofs.Laws.{both_true, first-false}
use borrow.Author.Rules.{rules}
use Rattle.queries.proofs.holds.Goals as goal

pub has_some-requires : goal.has_some-requires
unfolding passes by_mask
has_some-requires c = search (rules, c.requires.1.mask (ap by_mask c.in-Some.is))

pub has_some-requires-then-has_text-2 : goal.has_some-requires-then-has_text-2
unfolding passes by_mask
has_some-requires-then-has_text-2 c = search (rules, c.requires.1.mask (ap by_mask c.in-TextSome.is))

pub returns-in-Never : goal.returns-in-Never
unfolding passes by_mask
returns-in-Never c k o w m = rw c.in-Never.is

pub returns-in-Free : goal.returns-in-Free
unfolding passes by_mask
returns-in-Free c k o w m = rw c.in-Free.is

pub returns-in-Has : goal.returns-in-Has
unfolding passes by_mask
returns-in-Has c k o w m = rw c.in-Has.is (simp row-C at (c.has.ensures k o))

pub returns-in-Some : goal.returns-in-Some
unfolding passes by_mask
returns-in-Some c k o w m = let t = c.in-Some.is in rw t (simp row-C at (c.has_some.ensures k _ o w (m.mask _ (c.requires.1.mask (ap by_mask t)))))

pub returns-in-Text : goal.returns-in-Text
unfolding passes by_mask
returns-in-Text c k o w m = rw c.in-Text.is (simp row-C at (c.has_text.ensures k o w))

pub returns-then-has_text : goal.returns-then-has_text
unfolding passes by_mask
returns-then-has_text c k o w m = rw c.in-TextHas.is (both_true c.if-has_text.true (simp row-C at (c.has_text-in-TextHas.ensures k o w)) (simp row-C at (c.has-then-has_text.ensures k o)))

pub returns-else-has_text : goal.returns-else-has_text
unfolding passes by_mask
returns-else-has_text c k o w m = rw c.in-TextHas.is (c.if-has_text.false ∙ first-false _ c.if-has_text.false (simp row-C at (c.has_text-in-TextHas.ensures k o w)))

pub returns-then-has_text-2 : goal.returns-then-has_text-2
unfolding passes by_mask
returns-then-has_text-2 c k o w m = let t = c.in-TextSome.is in rw t (both_true c.if-has_text-2.true (simp row-C at (c.has_text-in-TextSome.ensures k o w)) (simp row-C at (c.has_some-then-has_text-2.ensures k _ o w (m.mask _ (c.requires.1.mask (ap by_mask t))))))

pub returns-else-has_text-2 : goal.returns-else-has_text-2
unfolding passes by_mask
returns-else-has_text-2 c k o w m = rw c.in-TextSome.is (c.if-has_text-2.false ∙ first-false _ c.if-has_text-2.false (simp row-C at (c.has_text-in-TextSome.ensures k o w)))
