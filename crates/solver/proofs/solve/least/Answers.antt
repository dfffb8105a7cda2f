-- `solver::solve::least` meets its contract. It starts from zeros. Assumes nothing.
use mathlib.Core.Path.{sym, subst}
use Prim.Native.Nat.{ℕ}
use mathlib.Core.List.{List}
use Rattle.table.specs.Code.{code}
use Rattle.solver.proofs.Begun.{begun, ended}
use Rattle.solver.specs.Ceiling.{Counted}
use Rattle.solver.proofs.solve.least.Goals as goal

pub fill-added-requires : goal.fill-added-requires
fill-added-requires c =
    let a = c.args in
    begun a.words.now a.est.now _ a.l c.requires.words_value.0 c.requires.words_value.1 c.requires.est_len.0 (c.fill.ensures.after (λ y h. h)) _ a.links.now c.link.ensures c.requires.est_len.1

pub returns : goal.returns
returns c =
    let a = c.args in
    (subst (λ (xs : List ℕ). Counted (code a.words.now) a.rho.bits a.ceiling xs c.fill-added.result) (sym c.clear_over.ensures) (ended a.words.now a.est.now _ a.l c.requires.words_value.0 c.requires.words_value.1 c.requires.est_len.0 (c.fill.ensures.after (λ y h. h)) a.rho.bits a.ceiling _ _ c.fill-added.ensures), record { slice = a.links.now; room = c.requires.est_len.1; made = c.link.ensures })
