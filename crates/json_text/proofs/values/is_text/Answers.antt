-- `json_text::values::is_text` meets its contract.
-- Assumes nothing.
use mathlib.Core.Path.{sym, ap, ◌∙◌}
use Rattle.json_text.specs.Values.{value, over}
use Rattle.json_text.specs.Answers.{ended}
use Rattle.json_text.proofs.Texts.{text-ends, over-at}
use Rattle.json_text.proofs.values.is_text.Goals as goal

pub returns-in-Some : goal.returns-in-Some
returns-in-Some c =
    let a = c.args in
    sym
    (text-ends _ a.nest _ (ap (value a.nest) (sym c.space.ensures) ∙ sym c.value.ensures ∙ ap (ended a.text.now) c.in-Some.is)
    ∙ ap over (sym c.space-in-Some.ensures)
    ∙ over-at a.text.now c.space-in-Some.result)
