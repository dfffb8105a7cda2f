-- `capi::of_words` meets its contract: what the call answered, as a number. Assumes nothing.
use mathlib.Core.Path.{ap, ◌∙◌}
use native.Mathlib.Omega.{arith}
use Rattle.calculus.specs.Answer.{Answer}
use Rattle.capi.specs.Interface.{estimate_bytes, work_bytes}
use Rattle.interface.specs.Numbers.{answer_number}
use Rattle.capi.proofs.Refusals.{place-fits}
use Rattle.capi.proofs.of_words.Goals as goal

pub answer_number-requires : goal.answer_number-requires
answer_number-requires c =
    let a = c.args in
    place-fits a.words.now a.rho a.bound _ _ _ c.with_bytes.ensures.result_value (omega arith)

pub returns : goal.returns
returns c =
    let a = c.args in
    let w = c.with_bytes.ensures in
    record {
      number = c.answer_number.ensures ∙ ap answer_number w.result_value;
      estimates = w.estimate_after ∙ ap (λ (b : Answer). estimate_bytes a.words.now a.rho b a.estimate.now) w.result_value;
      works = w.work_after ∙ ap (λ (b : Answer). work_bytes a.words.now b a.work.now) w.result_value;
    }
