-- `commands::other_text` meets its contract. Assumes nothing.
use mathlib.Core.Path.{ap, ◌∙◌}
use Rattle.text.proofs.Writing.{reworded}
use Rattle.std.specs.Prelude.{ℕ, Option}
use Rattle.commands.specs.Printed.{packed_for}
use Rattle.commands.proofs.Runs.{decided}
use Rattle.commands.proofs.Others.{other-pack, other-widen, other-narrow, other_none}
use Rattle.commands.proofs.other_text.Goals as goal

pub returns-then-same : goal.returns-then-same
returns-then-same c =
    let a = c.args in
    reworded (ap (λ (v : Option ℕ). packed_for v a.input.now) c.value_of.ensures ∙ other-pack a.command.now a.first.now a.input.now (decided _ _ _ c.same.ensures ∙ c.if-same.true)) c.packed_for.ensures

pub returns-then-same-2 : goal.returns-then-same-2
returns-then-same-2 c =
    let a = c.args in
    reworded (other-widen a.command.now a.first.now a.input.now (decided _ _ _ c.same.ensures ∙ c.if-same.false) (decided _ _ _ c.same-2.ensures ∙ c.if-same-2.true)) c.convert_text.ensures

pub returns-then-same-3 : goal.returns-then-same-3
returns-then-same-3 c =
    let a = c.args in
    reworded (other-narrow a.command.now a.first.now a.input.now (decided _ _ _ c.same.ensures ∙ c.if-same.false) (decided _ _ _ c.same-2.ensures ∙ c.if-same-2.false) (decided _ _ _ c.same-3.ensures ∙ c.if-same-3.true)) c.convert_text-then-same-3.ensures

pub returns : goal.returns
returns c =
    let a = c.args in
    reworded (other_none a.command.now a.first.now a.input.now (decided _ _ _ c.same.ensures ∙ c.if-same.false) (decided _ _ _ c.same-2.ensures ∙ c.if-same-2.false) (decided _ _ _ c.same-3.ensures ∙ c.if-same-3.false)) c.help.ensures
