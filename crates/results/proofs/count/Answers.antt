use native.Mathlib.Omega.{arith}
use Rattle.rows.proofs.Laws.{facts-most}
use Rattle.results.proofs.Sides.{facts-later, facts-done}
use Rattle.results.proofs.count.Goals as goal

pub overflow_add-n : goal.overflow_add-n
overflow_add-n c =
    let l = c.loop-word in let words = c.args.words.now in
    omega (arith, facts-later words l.word-index (omega arith) (c.type_inv.words l.word-index).fits, facts-most words)

pub loop-word-preserved : goal.loop-word-preserved
loop-word-preserved c =
    let l = c.loop-word in omega (arith, facts-later c.args.words.now l.word-index (omega arith) (c.type_inv.words l.word-index).fits)

pub returns : goal.returns
returns c = omega (arith, facts-done c.args.words.now c.loop-word.word-index (omega arith))
