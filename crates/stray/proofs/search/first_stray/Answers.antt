-- `stray::search::first_stray` meets its contract. A row fits into 36 words. Assumes nothing.
use native.Mathlib.Omega.{arith}
use Rattle.calls.proofs.Bounds.{row-bound}
use Rattle.stray.proofs.Named.{zeros-at}
use Rattle.stray.proofs.search.first_stray.Goals as goal

pub allow-requires : goal.allow-requires
allow-requires c =
    record {
      words_value = (c.requires.readable, c.requires.laid, omega (arith, c.requires.laid.row, row-bound c.args.words.now c.requires.readable), omega arith);
      by_index = zeros-at 36;
    }

pub allow-requires-2 : goal.allow-requires-2
allow-requires-2 c =
    record {
      words_value = (c.requires.readable, c.requires.laid, omega (arith, c.requires.laid.row, row-bound c.args.words.now c.requires.readable), omega arith);
      by_index = zeros-at 36;
    }

pub search-requires : goal.search-requires
search-requires c =
    let r = row-bound c.args.words.now c.requires.readable in (
      c.requires,
      record {
        things = c.allow.ensures;
        blocks = c.allow-2.ensures;
        long = omega (arith, c.requires.laid.row, r, c.allow.auto);
        wide = omega (arith, c.requires.laid.row, r, c.allow-2.auto);
      },
    )
