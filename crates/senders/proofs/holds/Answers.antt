-- `senders::holds` meets its contract. Assumes nothing.
use native.Mathlib.Omega.{arith}
use Rattle.permset.specs.Sets.{member}
use Rattle.rows.proofs.Sizes.{rows_fit}
use Rattle.senders.proofs.Laws.{row-few, holds-is}
use Rattle.senders.proofs.holds.Goals as goal

pub overflow_mul-b-2 : goal.overflow_mul-b-2
overflow_mul-b-2 c =
    omega (arith, rows_fit c.args.b c.of-row.result.row (omega arith) (row-few c.args.words.now c.requires.0 c.of-row.result c.of-row.ensures))

pub overflow_add-b : goal.overflow_add-b
overflow_add-b c =
    omega (arith, rows_fit c.args.b c.of-row.result.row (omega arith) (row-few c.args.words.now c.requires.0 c.of-row.result c.of-row.ensures))

pub returns : goal.returns
unfolding member
returns c =
    let a = c.args in
    holds-is a.words.now a.est.now a.b a.v _ _ c.requires.1 c.requires.2 c.of-row.ensures.row c.word_at-w.ensures
