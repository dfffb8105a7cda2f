-- `solver::solve::fill` meets its contract. Four rows fit into 144 words. Assumes nothing.
use Rattle.solver.proofs.Zeros.{zeros-at}
use Rattle.calls.proofs.Bounds.{row-bound}
use Rattle.solver.proofs.Begun.{ready_of}
use native.Mathlib.Omega.{arith}
use Rattle.solver.proofs.solve.fill.Goals as goal

pub fill_masks-requires : goal.fill_masks-requires
fill_masks-requires c =
    record {
      words_value = (c.requires.0.readable, c.requires.0.laid);
      by_index = zeros-at 144;
      row_in_bounds = (omega (arith, c.requires.0.laid.row, row-bound c.args.words.now c.requires.0.readable), omega arith);
    }

pub run-requires : goal.run-requires
run-requires c =
    let a = c.args in
    (ready_of a.words.now a.links.now _ a.est.now a.l c.requires.0 (omega (arith, c.fill_masks.auto.masks, c.requires.0.laid.row, row-bound a.words.now c.requires.0.readable)) c.fill_masks.ensures.masked, c.requires.1)
