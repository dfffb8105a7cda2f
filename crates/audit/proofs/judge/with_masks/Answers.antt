-- `audit::judge::with_masks` meets its contract. Four rows fit into 144 words. Assumes nothing.
use native.Mathlib.Omega.{arith}
use Rattle.calls.proofs.Bounds.{row-bound}
use Rattle.solver.proofs.Zeros.{zeros-at}
use Rattle.solver.proofs.Begun.{ready_of}
use Rattle.audit.proofs.judge.with_masks.Goals as goal

pub fill_masks-requires : goal.fill_masks-requires
fill_masks-requires c =
    let b = row-bound c.args.words.now c.requires.0.readable in
    record {
      words_value = (c.requires.0.readable, c.requires.0.laid);
      by_index = zeros-at 144;
      row_in_bounds = (omega (arith, c.requires.0.laid.row, b), omega arith);
    }

pub ruled-requires : goal.ruled-requires
ruled-requires c =
    let a = c.args in
    let b = row-bound a.words.now c.requires.0.readable in (
      ready_of a.words.now a.links.now _ a.est.now a.l c.requires.0 (omega (arith, c.fill_masks.auto.masks, c.requires.0.laid.row, b))
          c.fill_masks.ensures.masked,
      c.requires.0,
      c.requires.1,
    )
