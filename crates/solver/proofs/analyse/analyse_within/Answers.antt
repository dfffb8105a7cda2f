-- `solver::analyse::analyse_within` meets its contract. Assumes nothing.
use mathlib.Core.Path.{◌≡◌, refl, sym, ◌∙◌}
use Rattle.std.proofs.lemmas.Result.{err_from_is_err_and}
use Rattle.calls.specs.Faults.{fault_number, fault_place}
use Rattle.calculus.specs.Answer.{standing_bound}
use Rattle.calls.proofs.Answers.{after-refused, after-solved}
use Rattle.solver.specs.Ceiling.{refused, outcome_of}
use Rattle.solver.proofs.Bound.{bounded-says, refused-is, words-kept, within-is, words_are, sound-fine, sound-refused}
use Rattle.solver.proofs.analyse.analyse_within.Goals as goal

pub find_within-requires : goal.find_within-requires
find_within-requires c = c.in_ok-check.ensures.fit

pub returns-in_err-check : goal.returns-in_err-check
unfolding outcome_of
returns-in_err-check c =
    let a = c.args in
    let e = c.in_err-check.ensures in
    let p = err_from_is_err_and c.from_residual.result c.from_residual.ensures.1 in
    let says : outcome_of c.from_residual.result ≡ refused (fault_number c.in_err-check.field-0.0) (fault_place c.in_err-check.field-0.0) =
    rw (p.1, p.2, outcome_of) refl in
    let k = after-refused a.words.now a.rho standing_bound a.est.now a.work.now _ _ e in
    record {
      answer = says ∙ sym (refused-is a.words.now a.rho a.ceiling a.est.now a.work.now _ _ e);
      estimate = words-kept a.words.now a.rho a.ceiling a.est.now a.work.now _ _ e;
      work = k.1;
      sound = sound-refused a.words.now a.rho a.ceiling a.est.now a.work.now a.est.now _ _ _ says;
    }

pub returns : goal.returns
returns c =
    let a = c.args in
    let h = c.in_ok-check.ensures in
    let s = c.find_within.ensures in
    let says = bounded-says a.words.now a.rho a.ceiling _ s.says in
    let k = after-solved a.words.now a.rho standing_bound a.est.now a.work.now _ h.judged in
    record {
      answer = says ∙ sym (within-is a.words.now a.rho a.ceiling a.est.now a.work.now h.judged);
      estimate = s.estimates ∙ words_are a.words.now a.rho a.ceiling a.est.now a.work.now h.judged;
      work = s.works ∙ k.1;
      sound = sound-fine a.words.now a.rho a.ceiling a.est.now a.work.now _ h.judged s.estimates _ says;
    }
