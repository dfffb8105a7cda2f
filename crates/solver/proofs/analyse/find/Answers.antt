-- `solver::analyse::find` meets its contract. Assumes nothing.
use Prim.Native.Nat.{◌≤◌}
use native.Mathlib.Omega.{arith}
use Rattle.table.specs.Code.{code}
use Rattle.calls.proofs.Bounds.{size_small, lead-small}
use Rattle.calculus.specs.Estimate.{most_facts}
use Rattle.solver.proofs.Least.{found_in, most-is}
use Rattle.solver.proofs.analyse.find.Goals as goal

pub most_facts-most-requires : goal.most_facts-most-requires
most_facts-most-requires c =
    (size_small c.args.words.now c.requires.readable c.of.result c.of.ensures, lead-small c.args.words.now c.requires.readable c.of.result c.of.ensures)

pub returns : goal.returns
returns c =
    let a = c.args in
    let h : most_facts (code a.words.now) ≤ c.most_facts-most.result = omega (arith, most-is (code a.words.now) c.of.result c.of.ensures, c.most_facts-most.ensures) in
    found_in a.words.now c.requires.readable a.rho.bits _ h a.est.now a.work.now _ _ _ c.solve_in.ensures
