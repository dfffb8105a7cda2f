-- `commands::print` meets its contract. Assumes nothing.
use mathlib.Core.Path.{◌∙◌}
use Rattle.text.proofs.Writing.{reworded}
use Rattle.commands.proofs.Runs.{decided, printed-text, printed-words, printed-join, printed-block, printed-manifest, printed-explain, printed-check, printed-other}
use Rattle.commands.proofs.print.Goals as goal

pub returns-then-same : goal.returns-then-same
returns-then-same c =
    reworded (printed-text c.args.command.now c.args.first.now c.args.second.now c.args.input.now (decided _ _ _ c.same.ensures ∙ c.if-same.true)) c.text_text.ensures

pub returns-then-same-2 : goal.returns-then-same-2
returns-then-same-2 c =
    reworded (printed-words c.args.command.now c.args.first.now c.args.second.now c.args.input.now (decided _ _ _ c.same.ensures ∙ c.if-same.false) (decided _ _ _ c.same-2.ensures ∙ c.if-same-2.true)) c.words_text.ensures

pub returns-then-same-3 : goal.returns-then-same-3
returns-then-same-3 c =
    reworded (printed-join c.args.command.now c.args.first.now c.args.second.now c.args.input.now (decided _ _ _ c.same.ensures ∙ c.if-same.false) (decided _ _ _ c.same-2.ensures ∙ c.if-same-2.false) (decided _ _ _ c.same-3.ensures ∙ c.if-same-3.true)) c.join_text.ensures

pub returns-then-same-4 : goal.returns-then-same-4
returns-then-same-4 c =
    reworded (printed-block c.args.command.now c.args.first.now c.args.second.now c.args.input.now (decided _ _ _ c.same.ensures ∙ c.if-same.false) (decided _ _ _ c.same-2.ensures ∙ c.if-same-2.false) (decided _ _ _ c.same-3.ensures ∙ c.if-same-3.false) (decided _ _ _ c.same-4.ensures ∙ c.if-same-4.true)) c.block_text.ensures

pub returns-then-same-5 : goal.returns-then-same-5
returns-then-same-5 c =
    reworded (printed-manifest c.args.command.now c.args.first.now c.args.second.now c.args.input.now (decided _ _ _ c.same.ensures ∙ c.if-same.false) (decided _ _ _ c.same-2.ensures ∙ c.if-same-2.false) (decided _ _ _ c.same-3.ensures ∙ c.if-same-3.false) (decided _ _ _ c.same-4.ensures ∙ c.if-same-4.false) (decided _ _ _ c.same-5.ensures ∙ c.if-same-5.true)) c.manifest_text.ensures

pub returns-then-same-6 : goal.returns-then-same-6
returns-then-same-6 c =
    reworded (printed-explain c.args.command.now c.args.first.now c.args.second.now c.args.input.now (decided _ _ _ c.same.ensures ∙ c.if-same.false) (decided _ _ _ c.same-2.ensures ∙ c.if-same-2.false) (decided _ _ _ c.same-3.ensures ∙ c.if-same-3.false) (decided _ _ _ c.same-4.ensures ∙ c.if-same-4.false) (decided _ _ _ c.same-5.ensures ∙ c.if-same-5.false) (decided _ _ _ c.same-6.ensures ∙ c.if-same-6.true)) c.explain_text.ensures

pub returns-then-same-7 : goal.returns-then-same-7
returns-then-same-7 c =
    reworded (printed-check c.args.command.now c.args.first.now c.args.second.now c.args.input.now (decided _ _ _ c.same.ensures ∙ c.if-same.false) (decided _ _ _ c.same-2.ensures ∙ c.if-same-2.false) (decided _ _ _ c.same-3.ensures ∙ c.if-same-3.false) (decided _ _ _ c.same-4.ensures ∙ c.if-same-4.false) (decided _ _ _ c.same-5.ensures ∙ c.if-same-5.false) (decided _ _ _ c.same-6.ensures ∙ c.if-same-6.false) (decided _ _ _ c.same-7.ensures ∙ c.if-same-7.true)) c.check_text.ensures

pub returns : goal.returns
returns c =
    reworded (printed-other c.args.command.now c.args.first.now c.args.second.now c.args.input.now (decided _ _ _ c.same.ensures ∙ c.if-same.false) (decided _ _ _ c.same-2.ensures ∙ c.if-same-2.false) (decided _ _ _ c.same-3.ensures ∙ c.if-same-3.false) (decided _ _ _ c.same-4.ensures ∙ c.if-same-4.false) (decided _ _ _ c.same-5.ensures ∙ c.if-same-5.false) (decided _ _ _ c.same-6.ensures ∙ c.if-same-6.false) (decided _ _ _ c.same-7.ensures ∙ c.if-same-7.false)) c.other_text.ensures
