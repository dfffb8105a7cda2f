-- `solver::analyse::solve_in` meets its contract. What is lent of the slices comes back in its place. Assumes nothing.
use mathlib.Core.Path.{sym, ap, ap₂, ◌∙◌}
use mathlib.Core.List.{List, ◌++◌}
use Prim.Native.Nat.{ℕ, ◌*◌}
use lib.ListN.{length, drop}
use lib.Seq.{length-take-le}
use native.Mathlib.Omega.{arith}
use Rattle.table.specs.Code.{code}
use Rattle.calculus.specs.Estimate.{leak}
use Rattle.solver.proofs.analyse.solve_in.Goals as goal

pub slice_bounds-solve-end-2 : goal.slice_bounds-solve-end-2
slice_bounds-solve-end-2 c = sym (length-take-le _ _ (omega (arith, c.words_needed-need.ensures, c.requires.long)))

pub slice_bounds-solve-end-4 : goal.slice_bounds-solve-end-4
slice_bounds-solve-end-4 c = sym (length-take-le _ _ c.requires.room)

pub solve-requires : goal.solve-requires
solve-requires c =
    record {
      words_value = c.requires.readable;
      est_len = length-take-le _ _ (omega (arith, c.words_needed-need.ensures, c.requires.long)) ∙ c.words_needed-need.ensures;
      work_len = length-take-le _ _ c.requires.room;
    }

pub returns : goal.returns
returns c =
    let a = c.args in
    let s = c.solve.ensures in
    record {
      estimates = ap₂ (λ (k : ℕ) (xs : List ℕ). xs ++ drop k a.est.now) c.words_needed-need.ensures s.counted.words;
      works = ap (λ (xs : List ℕ). xs ++ drop (4 * length a.words.now) a.work.now) s.cleared;
      leaks = s.leaks ∙ ap (leak (code a.words.now) a.rho.bits) s.counted.words;
      within = s.counted.within;
      over = s.counted.over;
    }
