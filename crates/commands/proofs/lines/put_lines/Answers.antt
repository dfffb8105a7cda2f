-- `commands::lines::put_lines` meets its contract. Assumes nothing.
use Prim.Native.Nat.{◌-◌}
use native.Mathlib.Omega.{arith}
use lib.ListN.{drop, length-drop, length-take}
use Rattle.text.proofs.Writing.{reworded}
use Rattle.commands.proofs.Meant.{part-lines}
use Rattle.commands.proofs.lines.put_lines.Goals as goal

pub behind-end-requires : goal.behind-end-requires
behind-end-requires c = c.behind-start.ensures.inside

pub slice_bounds-put-count : goal.slice_bounds-put-count
slice_bounds-put-count c = omega (arith, c.behind-end.ensures.after)

pub slice_bounds-put-start : goal.slice_bounds-put-start
slice_bounds-put-start c = omega (arith, c.behind-end.ensures.after)

pub slice_bounds-put-end : goal.slice_bounds-put-end
slice_bounds-put-end c = c.behind-end.ensures.inside

pub put-requires : goal.put-requires
put-requires c =
    let b = c.behind-start in
    let e = c.behind-end in
    let x = e.ensures.inside in
    omega (arith, length-take (e.result - b.result) (drop b.result c.args.text.now), length-drop b.result c.args.text.now)

pub returns : goal.returns
returns c =
    let b = c.behind-start.ensures in
    let e = c.behind-end.ensures in
    reworded (part-lines c.args.text.now _ _ c.args.k c.args.count b.rest e.rest e.after e.inside) c.put.ensures
