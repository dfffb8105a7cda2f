-- `manifest::members::repeated` meets its contract.
-- Assumes nothing.
use mathlib.Core.Path.{sym, ap, ◌∙◌}
use mathlib.Core.Bool.{true}
use mathlib.Core.List.{[]}
use Rattle.manifest.specs.Members.{repeated}
use Rattle.manifest.proofs.Tops.{starts_none, starts-at, repeated-end}
use Rattle.manifest.proofs.members.repeated.Goals as goal

pub returns-in_default : goal.returns-in_default
returns-in_default c =
    sym (ap (repeated []) (starts_none 15 true c.args.text.now _ c.in_default.is) ∙ repeated-end [])

pub returns : goal.returns
returns c =
    c.repeated_from.ensures ∙ sym (ap (repeated []) (starts-at 15 true c.args.text.now _ _ c.in-Some.is))
