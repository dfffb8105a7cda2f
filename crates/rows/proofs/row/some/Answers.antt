use mathlib.Core.Path.{sym, ◌∙◌}
use native.Mathlib.Omega.{arith}
use Rattle.rows.proofs.Laws.{some_at, some-done}
use Rattle.rows.proofs.row.some.Goals as goal

pub loop-word-preserved : goal.loop-word-preserved
loop-word-preserved c =
    let l = c.loop-word in l.invariant ∙ some_at c.args.words.now l.word-index l.bits (omega arith)

pub returns : goal.returns
returns c =
    let l = c.loop-word in sym (l.invariant ∙ some-done c.args.words.now l.word-index l.bits (omega arith))
