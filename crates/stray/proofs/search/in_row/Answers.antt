-- `stray::search::in_row` meets its contract: the row is tested against what may stand in it.
-- Assumes nothing.
use mathlib.Core.Path.{sym, ◌∙◌}
use native.Mathlib.Omega.{arith}
use Rattle.rows.proofs.Sizes.{rows_fit}
use Rattle.stray.proofs.Sliced.{most-words, most-rows, words_long, table-long, row_in, blocks-tested, things-tested}
use Rattle.stray.proofs.search.in_row.Goals as goal

pub overflow_mul-at : goal.overflow_mul-at
overflow_mul-at c =
    let a = c.args in
    omega (arith, row_in a.words.now a.est.now a.l c.requires.0 a.r c.requires.2, rows_fit a.l.size a.l.row (most-words a.words.now a.est.now a.l c.requires.0) (most-rows a.words.now a.est.now a.l c.requires.0))

pub of_block-requires : goal.of_block-requires
of_block-requires c =
    let a = c.args in
    (c.requires.0.readable, omega (arith, c.requires.2, table-long a.words.now a.est.now a.l c.requires.0))

pub outside-requires : goal.outside-requires
outside-requires c =
    let a = c.args in
    (omega (arith, words_long a.words.now a.est.now a.l c.requires.0, row_in a.words.now a.est.now a.l c.requires.0 a.r c.requires.2), c.requires.1.wide)

pub returns-then-of_block : goal.returns-then-of_block
returns-then-of_block c =
    let a = c.args in
    blocks-tested a.words.now a.est.now a.l c.requires.0 (λ k. omega (arith, c.type_inv.est k)) a.r c.requires.2 a.things.now a.blocks.now c.requires.1
    (sym c.of_block.ensures ∙ c.if-of_block.true) c.outside.ensures

pub outside-requires-2 : goal.outside-requires-2
outside-requires-2 c =
    let a = c.args in
    (omega (arith, words_long a.words.now a.est.now a.l c.requires.0, row_in a.words.now a.est.now a.l c.requires.0 a.r c.requires.2), c.requires.1.long)

pub returns : goal.returns
returns c =
    let a = c.args in
    things-tested a.words.now a.est.now a.l c.requires.0 (λ k. omega (arith, c.type_inv.est k)) a.r c.requires.2 a.things.now a.blocks.now c.requires.1
    (sym c.of_block.ensures ∙ c.if-of_block.false) c.outside-2.ensures
