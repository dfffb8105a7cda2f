-- `capi::slices::with_room` meets its contract: the words of the estimate slice go to the call and back. Assumes nothing.
use Prim.Native.Nat.{◌/◌}
use mathlib.Core.Path.{sym, ap, ◌∙◌}
use native.Mathlib.Omega.{arith}
use lib.ListN.{length, drop}
use lib.Seq.{take_at}
use Rattle.capi.proofs.Written.{read_length, estimate-answer, estimate-bytes}
use Rattle.capi.proofs.slices.with_room.Goals as goal

pub slice_bounds-with_work-end-2 : goal.slice_bounds-with_work-end-2
slice_bounds-with_work-end-2 c =
    let w = c.words_of-n.ensures in
    sym (read_length _ _ _ _ w.count w.content)

pub slice_bounds-bytes_of-end-2 : goal.slice_bounds-bytes_of-end-2
slice_bounds-bytes_of-end-2 c =
    let w = c.words_of-n.ensures in
    let long = c.with_work-v.auto.est ∙ read_length _ _ _ _ w.count w.content in
    sym (ap length (take_at c.with_work-v.new.est (drop c.words_of-n.result c.words_of-n.new.words) _ long) ∙ long)

pub returns : goal.returns
returns c =
    let a = c.args in
    let p = c.requires in
    let w = c.words_of-n.ensures in
    let v = c.with_work-v.ensures in
    let b = c.bytes_of.ensures in
    let low = c.slice_known-1.given in
    let long = c.with_work-v.auto.est in record {
      result_value = estimate-answer a.words.now a.rho a.bound (length a.work.now / 4) p.0 a.estimate.now a.room.now _ _ p.1 w.count w.content _ v.result_value;
      estimate_after = estimate-bytes a.words.now a.rho a.bound (length a.work.now / 4) p.0 a.estimate.now a.room.now _ _ p.1 w.count w.content _ v.result_value
          (λ k. omega (arith, low k)) _ _ _ _ long v.est_after b.count b.content;
      work_after = v.work_after;
    }
