-- `manifest::members::following` meets its contract.
-- Assumes nothing.
use mathlib.Core.Path.{sym, ap, ◌∙◌}
use lib.ListN.{drop}
use Rattle.std.specs.Prelude.{Some}
use Rattle.json_text.specs.declared.Item.{Item}
use Rattle.json_text.specs.Values.{value, item}
use Rattle.json_text.specs.Answers.{stepped}
use Rattle.json_text.proofs.Repetition.{starts-fails, starts-goes, starts-ends}
use Rattle.manifest.proofs.Tops.{narrow}
use Rattle.manifest.proofs.members.following.Goals as goal

pub returns-in_err-next : goal.returns-in_err-next
returns-in_err-next c =
    let a = c.args in
    rw c.from_residual.ensures (starts-fails (item (value a.nest) a.keyed) (narrow a.nest a.keyed) (drop a.at a.text.now) (sym c.in_err-next.ensures))

pub returns-in-Goes : goal.returns-in-Goes
returns-in-Goes c =
    let a = c.args in
    let s = sym c.in_ok-next.ensures ∙ ap (λ (x : Item). stepped a.text.now (Some x)) c.in-Goes.is in
    (starts-goes (item (value a.nest) a.keyed) (narrow a.nest a.keyed) (drop a.at a.text.now) _ _ s, narrow a.nest a.keyed (drop a.at a.text.now) _ _ s)

pub returns-in-Ends : goal.returns-in-Ends
returns-in-Ends c =
    let a = c.args in
    starts-ends (item (value a.nest) a.keyed) (narrow a.nest a.keyed) (drop a.at a.text.now) _ (sym c.in_ok-next.ensures ∙ ap (λ (x : Item). stepped a.text.now (Some x)) c.in-Ends.is)
