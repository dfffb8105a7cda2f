-- `reading_order::arranged` meets its contract. Assumes nothing.
use Prim.Native.Nat.{ℕ, ◌≤◌}
use mathlib.Core.Path.{sym, ap, ◌∙◌}
use native.Mathlib.Omega.{arith}
use lib.ListN.{length, take, length-map}
use lib.Seq.{take_at, length-take-le}
use Rattle.table.specs.Code.{code}
use Rattle.reading_order.specs.Relation.{senders_to}
use Rattle.reading_order.proofs.Elements.{sized, firsts-of, rows_are, live-are, arranged-by}
use Rattle.reading_order.proofs.arranged.Goals as goal

pub live_among-live-requires : goal.live_among-live-requires
live_among-live-requires c =
    let ws = c.args.words.now in
    (sized ws c.requires.0 _ c.of-l.ensures _ c.requires.1, firsts-of ws c.requires.0 _ c.of-l.ensures _ c.requires.2)

pub fill_rows-requires : goal.fill_rows-requires
fill_rows-requires c =
    let ws = c.args.words.now in
    let f = firsts-of ws c.requires.0 _ c.of-l.ensures _ c.requires.2 in
    (sized ws c.requires.0 _ c.of-l.ensures _ c.requires.1, f, omega (arith, f.few))

pub slice_bounds-rows-end : goal.slice_bounds-rows-end
slice_bounds-rows-end c =
    omega (arith, c.fill_rows.auto.rows, (firsts-of c.args.words.now c.requires.0 _ c.of-l.ensures _ c.requires.2).few)

pub slice_bounds-arrange-end : goal.slice_bounds-arrange-end
slice_bounds-arrange-end c =
    let fits : length c.args.blocks.now ≤ length c.fill_rows.new.rows =
    omega (arith, c.fill_rows.auto.rows, (firsts-of c.args.words.now c.requires.0 _ c.of-l.ensures _ c.requires.2).few) in
    sym (length-take-le _ _ fits)

pub returns : goal.returns
returns c =
    let d = code c.args.words.now in
    let bs = c.args.blocks.now in
    let est = c.args.est.now in
    arranged-by d est c.args.positions.now c.arrange.new.positions (take {A = ℕ} (length bs) c.fill_rows.new.rows) _ c.arrange.result
    (ap (take {A = ℕ} (length bs)) (c.fill_rows.ensures d c.of-l.ensures) ∙ take_at _ _ (length bs) (length-map bs (senders_to d est bs)) ∙ rows_are d est bs c.requires.2)
    (c.live_among-live.ensures d c.of-l.ensures ∙ live-are d est bs c.requires.2)
    (let e = c.arrange.ensures in (e.value, (e.positions_after, e.means)))
