-- `commands::checking::put_first` meets its contract. Assumes nothing.
use native.Mathlib.Omega.{arith}
use mathlib.Core.Path.{sym}
use lib.Seq.{length-take-le}
use Rattle.listing.proofs.Cutting.{end_after}
use Rattle.text.proofs.Writing.{reworded, then, wrote-length}
use Rattle.commands.proofs.Checks.{first-closed, first-open}
use Rattle.commands.proofs.checking.put_first.Goals as goal

pub slice_bounds-put-end : goal.slice_bounds-put-end
slice_bounds-put-end c = sym (length-take-le _ _ c.line_end-end.ensures.1)

pub put-next-requires : goal.put-next-requires
put-next-requires c =
    let text = c.args.text.now in
    let e = c.line_end-end in
    omega (arith, length-take-le e.result text e.ensures.1)

pub overflow_sub-end : goal.overflow_sub-end
overflow_sub-end c = end_after _ 0 _ c.requires.0 c.line_end-end.ensures.0

pub returns-then-text-end-eq10 : goal.returns-then-text-end-eq10
returns-then-text-end-eq10 c =
    let e = c.line_end-end in
    let w = c.put-next.ensures in
    let text = c.args.text.now in
    record {
      wrote = reworded (first-closed text e.result (end_after text 0 e.result c.requires.0 e.ensures.0) (omega (arith, e.ensures.0)) c.if-text-end-eq10.true) w;
      upper_bound = omega (arith, w.ends, length-take-le e.result text e.ensures.1);
    }

pub put-requires : goal.put-requires
put-requires c =
    let text = c.args.text.now in
    let e = c.line_end-end in
    let w = c.put-next.ensures in
    omega (arith, w.ends, wrote-length w, length-take-le e.result text e.ensures.1)

pub returns : goal.returns
returns c =
    let e = c.line_end-end in
    let w = c.put-next.ensures in
    let v = c.put.ensures in
    let text = c.args.text.now in
    record {
      wrote = reworded (first-open text e.result (end_after text 0 e.result c.requires.0 e.ensures.0) (omega (arith, e.ensures.0)) c.if-text-end-eq10.false) (then w v);
      upper_bound = omega (arith, w.ends, v.ends, length-take-le e.result text e.ensures.1);
    }
