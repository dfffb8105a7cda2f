-- `manifest::read::judge` meets its contract.
-- Assumes nothing.
use mathlib.Core.Path.{◌≡◌, sym, ap, ◌∙◌}
use Rattle.std.specs.Prelude.{None}
use Rattle.std.specs.Option.{ok_or}
use Rattle.std.specs.Result.{result_ok}
use Rattle.std.proofs.lemmas.Result.{err_from_is_err_and}
use Rattle.manifest.specs.declared.Refusal.{Refusal}
use Rattle.manifest.specs.declared.Refusal.TheVariants.{NoVersion, NotStrings}
use Rattle.manifest.specs.Manifest.{version, refused, counts}
use Rattle.manifest.specs.Answer.{number, count_of}
use Rattle.manifest.proofs.Judged.{judged-repeated, judged-unversioned, judged-versioned}
use Rattle.manifest.proofs.Versions.{unspelled, spelled-is}
use Rattle.manifest.proofs.read.judge.Goals as goal

pub returns-then-repeated-clause-says : goal.returns-then-repeated-clause-says
returns-then-repeated-clause-says c = sym (judged-repeated _ (sym c.repeated.ensures ∙ c.if-repeated.true))

pub returns-in_err-version-clause-says : goal.returns-in_err-version-clause-says
returns-in_err-version-clause-says c =
    let p = err_from_is_err_and c.from_residual.result c.from_residual.ensures.1 in
    let none : c.version.result ≡ None = c.ok_or.ensures.ok_part ∙ ap result_ok c.in_err-version.was in
    let was = sym c.in_err-version.was ∙ c.ok_or.ensures.value ∙ ap (λ o. ok_or o NoVersion) none in
    let e : c.in_err-version.field-0.0 ≡ NoVersion = cc in
    rw (p.1, p.2)
    (ap (λ (r : Refusal). refused (number r) 0) e
    ∙ sym (judged-unversioned _ (sym c.repeated.ensures ∙ c.if-repeated.false) (ap version (sym c.find-value.ensures) ∙ unspelled _ (sym none ∙ c.version.ensures))))

pub returns-in_err-tally-clause-says : goal.returns-in_err-tally-clause-says
returns-in_err-tally-clause-says c =
    let p = err_from_is_err_and c.from_residual-in_err-tally.result c.from_residual-in_err-tally.ensures.1 in
    let v = spelled-is (version _) _ (sym (c.ok_or.ensures.ok_part ∙ ap result_ok c.in_ok-version.was) ∙ c.version.ensures) in
    let none : c.total.result ≡ None = c.ok_or-2.ensures.ok_part ∙ ap result_ok c.in_err-tally.was in
    let was = sym c.in_err-tally.was ∙ c.ok_or-2.ensures.value ∙ ap (λ o. ok_or o NotStrings) none in
    let e : c.in_err-tally.field-0.0 ≡ NotStrings = cc in
    rw (p.1, p.2)
    (ap (λ (r : Refusal). refused (number r) 0) e
    ∙ sym
    (judged-versioned _ (sym c.repeated.ensures ∙ c.if-repeated.false) _ (ap version (sym c.find-value.ensures) ∙ v.0) v.1
    ∙ ap (counts c.in_ok-version.version) (sym c.total.ensures.counts ∙ ap count_of none)))

pub returns-clause-says : goal.returns-clause-says
returns-clause-says c =
    let v = spelled-is (version _) _ (sym (c.ok_or.ensures.ok_part ∙ ap result_ok c.in_ok-version.was) ∙ c.version.ensures) in
    sym
    (judged-versioned _ (sym c.repeated.ensures ∙ c.if-repeated.false) _ (ap version (sym c.find-value.ensures) ∙ v.0) v.1
    ∙ ap (counts c.in_ok-version.version) (sym c.total.ensures.counts ∙ ap count_of (c.ok_or-2.ensures.ok_part ∙ ap result_ok c.in_ok-tally.was)))
