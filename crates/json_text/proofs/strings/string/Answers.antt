use mathlib.Core.Path.{sym, ap, ◌∙◌}
use lib.ListN.{drop}
use Rattle.std.specs.Prelude.{Some}
use Rattle.json_text.specs.declared.Character.{Character}
use Rattle.json_text.specs.Strings.{character}
use Rattle.json_text.specs.Answers.{read}
use Rattle.json_text.proofs.Repetition.{after-fails, after-goes, after-ends}
use Rattle.json_text.proofs.Shorter.{character-narrow}
use Rattle.json_text.proofs.strings.string.Goals as goal

pub returns-in_err-q : goal.returns-in_err-q
returns-in_err-q c =
    rw c.from_residual.ensures
    (sym (c.loop-q.invariant ∙ after-fails character character-narrow (drop c.loop-q.p c.args.text.now) (sym c.in_err-q.ensures)))

pub loop-q-smaller-in-One : goal.loop-q-smaller-in-One
loop-q-smaller-in-One c = character-narrow (drop c.loop-q.p c.args.text.now) _ _ (sym c.in_ok-q.ensures ∙ ap (λ (x : Character). read c.args.text.now (Some x)) c.in-One.is)

pub loop-q-preserved-in-One : goal.loop-q-preserved-in-One
loop-q-preserved-in-One c =
    c.loop-q.invariant ∙ after-goes character character-narrow (drop c.loop-q.p c.args.text.now) _ _ (sym c.in_ok-q.ensures ∙ ap (λ (x : Character). read c.args.text.now (Some x)) c.in-One.is)

pub loop-q-smaller : goal.loop-q-smaller
loop-q-smaller c = character-narrow (drop c.loop-q.p c.args.text.now) _ _ (sym c.in_ok-q.ensures ∙ ap (λ (x : Character). read c.args.text.now (Some x)) c.in-Two.is)

pub loop-q-preserved : goal.loop-q-preserved
loop-q-preserved c =
    c.loop-q.invariant ∙ after-goes character character-narrow (drop c.loop-q.p c.args.text.now) _ _ (sym c.in_ok-q.ensures ∙ ap (λ (x : Character). read c.args.text.now (Some x)) c.in-Two.is)

pub returns-in-Ends : goal.returns-in-Ends
returns-in-Ends c =
    sym (c.loop-q.invariant ∙ after-ends character character-narrow (drop c.loop-q.p c.args.text.now) _ (sym c.in_ok-q.ensures ∙ ap (λ (x : Character). read c.args.text.now (Some x)) c.in-Ends.is))
