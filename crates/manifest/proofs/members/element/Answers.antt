-- `manifest::members::element` meets its contract.
-- Assumes nothing.
use mathlib.Core.Path.{sym, ap, ◌∙◌}
use Rattle.permset.specs.declared.PermSet.{PermSet}
use Rattle.json_text.proofs.Choice.{is, is-not}
use Rattle.manifest.specs.Members.{strings}
use Rattle.manifest.proofs.Lists.{no-string, element-other, element-sets}
use Rattle.manifest.proofs.members.element.Goals as goal

pub returns-then-byte-ne34-clause-counts : goal.returns-then-byte-ne34-clause-counts
returns-then-byte-ne34-clause-counts c = sym (no-string _ _ _ _ _ _ (is-not c.byte.ensures c.if-byte-ne34.true))

pub returns-then-is_empty-clause-counts : goal.returns-then-is_empty-clause-counts
returns-then-is_empty-clause-counts c =
    let a = c.args in
    sym (element-other a.names a.hosts a.text.now a.at _ _ _ c.set_of-more.ensures (is c.byte.ensures c.if-byte-ne34.false) (sym c.is_empty.ensures ∙ c.if-is_empty.true))

pub returns-else-is_empty-clause-counts : goal.returns-else-is_empty-clause-counts
returns-else-is_empty-clause-counts c =
    let a = c.args in
    ap (λ (s : PermSet). strings s.bits a.tally.others) c.union.ensures
    ∙ sym (element-sets a.names a.hosts a.text.now a.at _ _ _ c.set_of-more.ensures (is c.byte.ensures c.if-byte-ne34.false) (sym c.is_empty.ensures ∙ c.if-is_empty.false))
