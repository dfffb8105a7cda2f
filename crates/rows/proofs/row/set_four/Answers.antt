-- `rows::row::set_four` meets its contract: where the four words gain nothing they stay, else each gains its bits. Assumes nothing.
use native.Mathlib.Omega.{arith}
use Rattle.rows.proofs.Joined.{none-added, four-few, four-added}
use Rattle.rows.proofs.row.set_four.Goals as goal

pub returns-then-e-f-eq0 : goal.returns-then-e-f-eq0
returns-then-e-f-eq0 c = let a = c.args in none-added a.row.now a.k a.a a.b a.c a.d c.if-e-f-eq0.true

pub overflow_add-low : goal.overflow_add-low
overflow_add-low c =
    let a = c.args in let old = c.slice_known-1.given in
    let f = four-few a.row.now a.k a.a a.b a.c a.d c.requires (λ i. (old i).fits) c.ranges.a.fits c.ranges.b.fits c.ranges.c.fits c.ranges.d.fits in
    omega (arith, f)

pub overflow_add-high : goal.overflow_add-high
overflow_add-high c =
    let a = c.args in let old = c.slice_known-1.given in
    let f = four-few a.row.now a.k a.a a.b a.c a.d c.requires (λ i. (old i).fits) c.ranges.a.fits c.ranges.b.fits c.ranges.c.fits c.ranges.d.fits in
    omega (arith, f)

pub overflow_add-result : goal.overflow_add-result
overflow_add-result c =
    let a = c.args in let old = c.slice_known-1.given in
    let f = four-few a.row.now a.k a.a a.b a.c a.d c.requires (λ i. (old i).fits) c.ranges.a.fits c.ranges.b.fits c.ranges.c.fits c.ranges.d.fits in
    omega (arith, f)

pub returns : goal.returns
returns c =
    let a = c.args in let old = c.slice_known-1.given in
    four-added a.row.now a.k a.a a.b a.c a.d c.requires (λ i. (old i).fits) c.ranges.a.fits c.ranges.b.fits c.ranges.c.fits c.ranges.d.fits
