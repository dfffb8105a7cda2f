use mathlib.Core.Path.{sym, ◌∙◌}
use Rattle.json_text.proofs.Compared.{contains-here, contains-none, contains-later}
use Rattle.json_text.proofs.units.contains.Goals as goal

pub returns-then-matches : goal.returns-then-matches
returns-then-matches c =
    sym (c.loop-cursor.invariant ∙ contains-here _ _ (sym c.matches.ensures ∙ c.if-matches.true))

pub returns-in_default : goal.returns-in_default
returns-in_default c =
    sym (c.loop-cursor.invariant ∙ contains-none _ _ c.in_default.ensures (sym c.matches.ensures ∙ c.if-matches.false))

pub loop-cursor-preserved : goal.loop-cursor-preserved
loop-cursor-preserved c =
    c.loop-cursor.invariant ∙ contains-later _ _ c.in-Some.ensures (sym c.matches.ensures ∙ c.if-matches.false)
