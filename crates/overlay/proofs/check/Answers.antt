use Rattle.std.proofs.Common.{◌≡◌, ◌∙◌, sym, ap, rules, Result, Ok, Err, ℕ, List}
use Rattle.std.specs.Result.{MatchResult, IsErrAnd}
use Rattle.table.specs.declared.Refusal.{Refusal}
use Rattle.table.specs.Answer.{outcome}
use Rattle.table.specs.Scan.{accepted, narrow_reading}
use Rattle.overlay.specs.declared.Fault.{Fault}
use Rattle.overlay.specs.declared.Fault.TheVariants as faults
use Rattle.overlay.specs.Lookup.{tables_read}
use Rattle.overlay.specs.Answers.{fault_number, fault_place, checked_as}
use Rattle.overlay.proofs.Refusals.{base-refused, overlay-refused, both-accepted, mapped-ok, mapped-err}
use Rattle.overlay.proofs.check.Goals as goal

-- where the base is accepted, the overlay decides
decided : (base overlay : List ℕ) (r : Result (Unit {0}) Refusal) (m : Result (Unit {0}) Fault) → narrow_reading base ≡ accepted → outcome r ≡ narrow_reading overlay
    → MatchResult r (λ x. m ≡ Ok x) (λ e. IsErrAnd m (λ f. f ≡ faults.Overlay e)) → checked_as m ≡ tables_read base overlay
unfolding outcome checked_as fault_number fault_place
decided base overlay (Ok u) m b o h = ap checked_as h ∙ sym (both-accepted base overlay b (sym o))
decided base overlay (Err e) (Ok u) b o h = absurd h
decided base overlay (Err e) (Err f) b o h = ap (λ (g : Fault). checked_as (Err g)) h ∙ sym (overlay-refused base overlay b _ _ (sym o))

pub returns-in_err-map_err : goal.returns-in_err-map_err
unfolding checked_as fault_number fault_place
returns-in_err-map_err c =
    let q = mapped-err faults.Base c.read_narrow.result c.map_err.result c.map_err.ensures.cases c.in_err-map_err.was in
    let passed : c.from_residual.result ≡ Err c.in_err-map_err.field-0.0 = search rules in
    ap checked_as passed ∙ ap (λ (f : Fault). checked_as (Err f)) q.2 ∙ sym (base-refused _ _ _ _ (sym c.read_narrow.ensures ∙ q.1))

pub returns : goal.returns
returns c =
    decided c.args.base.now c.args.overlay.now c.read_narrow-2.result c.map_err-2.result
    (sym c.read_narrow.ensures ∙ mapped-ok faults.Base c.read_narrow.result c.map_err.result c.map_err.ensures.cases c.in_ok-map_err.was)
    c.read_narrow-2.ensures c.map_err-2.ensures.cases
