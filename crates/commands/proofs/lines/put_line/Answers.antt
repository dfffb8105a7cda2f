-- `commands::lines::put_line` meets its contract. Assumes nothing.
use Prim.Native.Nat.{◌-◌}
use native.Mathlib.Omega.{arith}
use lib.ListN.{drop, length-drop, length-take}
use Rattle.text.proofs.Writing.{reworded}
use Rattle.commands.proofs.Meant.{part-line}
use Rattle.commands.proofs.lines.put_line.Goals as goal

pub line_end-end-requires : goal.line_end-end-requires
line_end-end-requires c = c.behind-start.ensures.inside

pub slice_bounds-put-count : goal.slice_bounds-put-count
slice_bounds-put-count c = omega (arith, c.line_end-end.ensures.0)

pub slice_bounds-put-start : goal.slice_bounds-put-start
slice_bounds-put-start c = omega (arith, c.line_end-end.ensures.0)

pub slice_bounds-put-end : goal.slice_bounds-put-end
slice_bounds-put-end c = c.line_end-end.ensures.1

pub put-requires : goal.put-requires
put-requires c =
    let b = c.behind-start in
    let e = c.line_end-end in
    let x = e.ensures.1 in
    let y = b.ensures.inside in
    omega (arith, length-take (e.result - b.result) (drop b.result c.args.text.now), length-drop b.result c.args.text.now)

pub returns : goal.returns
returns c =
    let b = c.behind-start in
    let e = c.line_end-end in
    let w = c.put.ensures in
    let x = e.ensures.1 in
    let y = b.ensures.inside in
    record {
      wrote = reworded (part-line c.args.text.now b.result e.result c.args.k b.ensures.rest e.ensures.0) w;
      upper_bound = omega (arith, w.ends, length-take (e.result - b.result) (drop b.result c.args.text.now), length-drop b.result c.args.text.now);
    }
