-- `solver::analyse::analyse` meets its contract. Assumes nothing.
use mathlib.Core.Path.{◌≡◌, sym, ap, ◌∙◌}
use lib.ListN.{length}
use Rattle.std.proofs.lemmas.Result.{err_from_is_err_and}
use Rattle.calculus.specs.Answer.{standing_bound, judge, answer}
use Rattle.calls.proofs.Answers.{after-refused, after-solved}
use Rattle.solver.specs.Analysis.{solved, said, summary}
use Rattle.solver.proofs.Sound.{sound}
use Rattle.solver.proofs.analyse.analyse.Goals as goal

pub find-found-requires : goal.find-found-requires
find-found-requires c = c.in_ok-check.ensures.fit

pub returns-in_err-check : goal.returns-in_err-check
unfolding said summary
returns-in_err-check c =
    let a = c.args in
    let e = c.in_err-check.ensures in
    let k = after-refused a.words.now a.rho standing_bound a.est.now a.work.now _ _ e in
    let p = err_from_is_err_and c.from_residual.result c.from_residual.ensures.1 in
    let d : said c.from_residual.result ≡ summary (answer a.words.now a.rho standing_bound (length a.est.now) (length a.work.now)) =
    rw (p.1, p.2, said) (ap summary (sym e)) in
    record {
      answer = d;
      estimate = k.0;
      work = k.1;
      sound = sound a.words.now a.rho a.est.now a.work.now _ _ d k.0;
    }

pub returns : goal.returns
unfolding said summary judge
returns c =
    let a = c.args in
    let h = c.in_ok-check.ensures in
    let s = c.find-found.ensures in
    let k = after-solved a.words.now a.rho standing_bound a.est.now a.work.now _ h.judged in
    let d = ap solved s.leaks ∙ ap summary (sym h.judged) in
    let u = s.estimates ∙ k.0 in
    record {
      answer = d;
      estimate = u;
      work = s.works ∙ k.1;
      sound = sound a.words.now a.rho a.est.now a.work.now _ _ d u;
    }
