-- `rows::row::set` meets its contract: the count is exact, because no digit of the word is lost.
-- Assumes nothing.
use Rattle.rows.proofs.Laws.{nothing-new, different-bits}
use Rattle.rows.proofs.row.set.Goals as goal

pub returns-then-new-old : goal.returns-then-new-old
returns-then-new-old c = let a = c.args in nothing-new a.row.now a.k a.bits c.if-new-old.true

pub returns : goal.returns
returns c =
    let a = c.args in
    different-bits a.row.now a.k a.bits c.requires (c.slice_known-1.given a.k).fits c.ranges.bits.fits
