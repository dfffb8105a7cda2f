-- `capi::slices::with_own` meets its contract: the words of the work slice go to the call and back. Assumes nothing.
use mathlib.Core.Path.{sym, ap, ◌∙◌}
use native.Mathlib.Omega.{arith}
use lib.ListN.{length, drop}
use lib.Seq.{take_at}
use Rattle.capi.proofs.Written.{read_length, work-answer, work-estimate, work-bytes}
use Rattle.capi.proofs.slices.with_own.Goals as goal

pub slice_bounds-verdict-end-2 : goal.slice_bounds-verdict-end-2
slice_bounds-verdict-end-2 c =
    let w = c.words_of-n.ensures in
    sym (read_length _ _ _ _ w.count w.content)

pub slice_bounds-bytes_of-end-2 : goal.slice_bounds-bytes_of-end-2
slice_bounds-bytes_of-end-2 c =
    let w = c.words_of-n.ensures in
    let long = c.verdict-v.auto.work ∙ read_length _ _ _ _ w.count w.content in
    sym (ap length (take_at c.verdict-v.new.work (drop c.words_of-n.result c.words_of-n.new.words) _ long) ∙ long)

pub returns : goal.returns
returns c =
    let a = c.args in
    let p = c.requires in
    let w = c.words_of-n.ensures in
    let v = c.verdict-v.ensures in
    let b = c.bytes_of.ensures in
    let low = c.slice_known-2-1.given in
    let long = c.verdict-v.auto.work in record {
      result_value = work-answer a.words.now a.rho a.bound a.est.now p.0 a.work.now a.own.now _ _ p.1 w.count w.content _ v.answer;
      est_after = work-estimate a.words.now a.rho a.bound a.est.now p.0 a.work.now a.own.now _ _ p.1 w.count w.content _ v.answer _ v.estimate;
      work_after = work-bytes a.words.now a.rho a.bound a.est.now p.0 a.work.now a.own.now _ _ p.1 w.count w.content _ v.answer
          (λ k. omega (arith, low k)) _ _ _ _ long v.work b.count b.content;
    }
