-- `manifest::read::read` meets its contract: the tests in their order.
-- Assumes nothing.
use mathlib.Core.Bool.{true, not}
use mathlib.Core.Path.{sym, ap, ◌∙◌}
use native.Mathlib.Omega.{arith}
use borrow.Author.Tests.{le-leb, lt-leb, not-true, not-false}
use Rattle.json_text.specs.Bytes.{head, tail}
use Rattle.json_text.specs.Values.{value, first, starts_from}
use Rattle.json_text.proofs.Choice.{is, is-not}
use Rattle.json_text.proofs.Places.{tail-drop}
use Rattle.manifest.specs.Manifest.{judged_from}
use Rattle.manifest.proofs.Judged.{judged-not, judged-object, too_long, no_text, no-object, an-object}
use Rattle.manifest.proofs.read.read.Goals as goal

pub returns-then-text-gt16384 : goal.returns-then-text-gt16384
returns-then-text-gt16384 c = record {
  says = sym (judged-not _ (too_long _ (lt-leb _ _ c.if-text-gt16384.true)));
  few = omega arith;
}

pub returns-then-not-is_text : goal.returns-then-not-is_text
returns-then-not-is_text c = record {
  says = sym (judged-not _ (no_text _ (le-leb _ _ c.if-text-gt16384.false) (sym c.is_text.ensures ∙ not-true _ (ap not c.if-not-is_text.true))));
  few = omega arith;
}

pub returns-then-byte-ne123 : goal.returns-then-byte-ne123
returns-then-byte-ne123 c = record {
  says = sym (judged-not _ (no-object _ (le-leb _ _ c.if-text-gt16384.false) (sym c.is_text.ensures ∙ not-false _ (ap not c.if-not-is_text.false)) (is-not (c.byte.ensures ∙ ap head c.space-top.ensures) c.if-byte-ne123.true)));
  few = omega arith;
}

pub returns : goal.returns
returns c =
    record {
      says = c.judge.ensures.says
          ∙ sym
          (judged-object _ (an-object _ (le-leb _ _ c.if-text-gt16384.false) (sym c.is_text.ensures ∙ not-false _ (ap not c.if-not-is_text.false)) (is (c.byte.ensures ∙ ap head c.space-top.ensures) c.if-byte-ne123.false))
          ∙ ap (λ bs. judged_from (starts_from (value 15) true (first true bs))) (ap tail (sym c.space-top.ensures) ∙ tail-drop c.args.text.now c.space-top.result)
          ∙ ap (λ r. judged_from (starts_from (value 15) true r)) (sym c.first.ensures));
      few = c.judge.ensures.few;
    }
