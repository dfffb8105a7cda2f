-- `solver::analyse::find_within` meets its contract. Assumes nothing.
use Rattle.solver.proofs.Bound.{is-over, is_within}
use Rattle.solver.proofs.analyse.find_within.Goals as goal

pub returns-then-ceiling-found : goal.returns-then-ceiling-found
returns-then-ceiling-found c =
    let a = c.args in
    is-over a.words.now a.rho.bits a.ceiling a.est.now a.work.now _ _ _ c.solve_in-found.ensures c.if-ceiling-found.true

pub returns : goal.returns
returns c =
    let a = c.args in
    is_within a.words.now a.rho.bits a.ceiling a.est.now a.work.now _ _ _ c.solve_in-found.ensures c.if-ceiling-found.false
