-- `capi_text::manifests::wiphosega_manifest` meets its contract. Assumes nothing.
use Prim.Native.Nat.{ℕ, ◌+◌, ◌*◌, ◌^◌, ◌≤◌}
use mathlib.Core.Path.{sym, ap, subst, ◌∙◌}
use Rattle.std.specs.Prelude.{Result}
use Rattle.manifest.specs.declared.Manifest.{Manifest}
use Rattle.manifest.specs.declared.Refusal.{Refusal}
use Rattle.manifest.specs.Answer.{outcome, others_in}
use Rattle.capi_text.specs.Manifest.{outcome_number}
use Rattle.capi_text.proofs.Separation.{refused-number}
use Rattle.capi_text.proofs.manifests.wiphosega_manifest.Goals as goal

pub manifest_answer-requires : goal.manifest_answer-requires
manifest_answer-requires c =
    subst (λ (r : Result Manifest Refusal). others_in r ≤ 32770) c.in-Ok.is c.read.ensures.few

pub returns-in-Ok : goal.returns-in-Ok
unfolding outcome_number
returns-in-Ok c =
    c.manifest_answer.ensures
    ∙ ap outcome_number (sym (ap outcome c.in-Ok.is) ∙ c.read.ensures.says)

pub returns-in-Err : goal.returns-in-Err
returns-in-Err c =
    refused-number _ _ (c.refusal.ensures ∙ ap (λ (n : ℕ). 2 ^ 32 + n * 65536 + 0) c.refusal_number.ensures)
    ∙ ap outcome_number (sym (ap outcome c.in-Err.is) ∙ c.read.ensures.says)
