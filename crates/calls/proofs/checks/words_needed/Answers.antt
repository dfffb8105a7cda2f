-- `calls::checks::words_needed` meets its contract.
-- Assumes nothing.
use mathlib.Core.Path.{sym, ◌∙◌}
use Rattle.calls.proofs.Bounds.{size_small, row_small, words_are}
use Rattle.calls.proofs.checks.words_needed.Goals as goal

pub words-requires : goal.words-requires
words-requires c =
    (size_small c.args.words.now c.requires c.of.result c.of.ensures, row_small c.args.words.now c.requires c.of.result c.of.ensures)

pub returns : goal.returns
returns c =
    let l = c.of in
    c.words.ensures ∙ sym (words_are c.args.words.now c.requires l.result l.ensures)
