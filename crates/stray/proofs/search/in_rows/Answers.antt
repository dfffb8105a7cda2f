use native.Mathlib.Omega.{arith}
use Rattle.rows.proofs.Sizes.{rows_fit}
use Rattle.stray.proofs.Firsts.{first-after, first-longer}
use Rattle.stray.proofs.Sliced.{most-words, most-rows, row_in}
use Rattle.stray.proofs.search.in_rows.Goals as goal

pub overflow_add-end : goal.overflow_add-end
overflow_add-end c =
    let a = c.args in
    let l = c.loop-r in
    omega (arith, l.invariant.0, row_in a.words.now a.est.now a.l c.requires.0 l.r c.loop-r-test.true, rows_fit a.l.size a.l.row (most-words a.words.now a.est.now a.l c.requires.0) (most-rows a.words.now a.est.now a.l c.requires.0))

pub returns-then-k-end : goal.returns-then-k-end
returns-then-k-end c =
    let a = c.args in
    let l = c.loop-r in
    first-longer (first-after (λ k h. l.invariant.1 k (omega (arith, l.invariant.0))) c.in_row-k.ensures) (omega (arith, l.invariant.0, c.if-k-end.true))
    (row_in a.words.now a.est.now a.l c.requires.0 l.r c.loop-r-test.true)

pub overflow_mul-r-end : goal.overflow_mul-r-end
overflow_mul-r-end c =
    let a = c.args in
    omega (arith, most-words a.words.now a.est.now a.l c.requires.0)
