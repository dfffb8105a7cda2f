-- `audit::judge::sized` meets its contract.
-- Assumes nothing.
use mathlib.Core.Path.{sym, ◌∙◌}
use Rattle.table.specs.Code.{code}
use Rattle.calls.proofs.Bounds.{size_small, row_small, words_are}
use Rattle.audit.specs.Audited.{said}
use Rattle.audit.proofs.Steps.{other_length, same_length}
use Rattle.audit.proofs.judge.sized.Goals as goal

pub words-requires : goal.words-requires
words-requires c =
    let ws = c.args.words.now in
    let o = c.of-l.ensures in
    (size_small ws c.requires c.of-l.result o, row_small ws c.requires c.of-l.result o)

pub returns-then-est-words : goal.returns-then-est-words
unfolding said
returns-then-est-words c =
    let ws = c.args.words.now in
    let f = c.of-l in
    let o = f.ensures in
    other_length (code ws) c.args.rho.bits c.args.est.now (λ e. c.if-est-words.true (e ∙ words_are ws c.requires f.result o ∙ sym c.words.ensures))

pub swept-requires : goal.swept-requires
swept-requires c =
    let ws = c.args.words.now in
    let f = c.of-l in
    let o = f.ensures in
    record { readable = c.requires; laid = o; long = c.if-est-words.false ∙ c.words.ensures ∙ sym (words_are ws c.requires f.result o) }

pub returns : goal.returns
returns c =
    let ws = c.args.words.now in
    let f = c.of-l in
    let o = f.ensures in
    c.swept.ensures
    ∙ same_length (code ws) c.args.rho.bits c.args.est.now (c.if-est-words.false ∙ c.words.ensures ∙ sym (words_are ws c.requires f.result o))
