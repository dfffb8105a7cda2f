-- `manifest::read::total` meets its contract.
-- Assumes nothing.
use mathlib.Core.Path.{sym, ap, ap₂, ◌∙◌}
use mathlib.Core.Bool.{true, false}
use native.Mathlib.Omega.{arith}
use Rattle.permset.specs.declared.PermSet.{PermSet}
use Rattle.json_text.specs.Values.{value, starts_from}
use Rattle.json_text.specs.Answers.{ended}
use Rattle.manifest.specs.Members.{strings, listed}
use Rattle.manifest.specs.Answer.{count_of}
use Rattle.manifest.proofs.Judged.{total-two, total-three}
use Rattle.manifest.proofs.Unions.{listed-not}
use Rattle.manifest.proofs.read.total.Goals as goal

pub returns-then-version-eq2 : goal.returns-then-version-eq2
returns-then-version-eq2 c = record {
  counts = c.list.ensures.counts
      ∙ ap₂ (listed true true) c.find-names.ensures (ap (λ (s : PermSet). strings s.bits 0) c.empty.ensures)
      ∙ sym (total-two (starts_from (value 15) true (ended c.args.text.now c.args.members)) _ _ c.if-version-eq2.true);
  few = omega (arith, c.list.ensures.few, c.requires);
}

pub returns-in_err-first-clause-counts : goal.returns-in_err-first-clause-counts
returns-in_err-first-clause-counts c =
    ap count_of c.from_residual.ensures
    ∙ sym
    (total-three (starts_from (value 15) true (ended c.args.text.now c.args.members)) _ _ c.if-version-eq2.false
    ∙ ap (listed false true _) (sym (c.in_err-first.ensures.counts ∙ ap₂ (listed true false) c.find-names.ensures (ap (λ (s : PermSet). strings s.bits 0) c.empty.ensures)))
    ∙ listed-not false true _)

pub returns-clause-counts : goal.returns-clause-counts
returns-clause-counts c =
    c.list-3.ensures.counts
    ∙ ap₂ (listed false true) c.find.ensures (c.in_ok-first.ensures.counts ∙ ap₂ (listed true false) c.find-names.ensures (ap (λ (s : PermSet). strings s.bits 0) c.empty.ensures))
    ∙ sym (total-three (starts_from (value 15) true (ended c.args.text.now c.args.members)) _ _ c.if-version-eq2.false)
