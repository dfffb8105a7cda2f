use mathlib.Core.Path.{sym, ◌∙◌}
use native.Mathlib.Omega.{arith}
use Rattle.json_text.proofs.Compared.{spread_end, spread-next}
use Rattle.json_text.proofs.units.hash.Goals as goal

pub loop-next-preserved : goal.loop-next-preserved
loop-next-preserved c = (c.loop-next.invariant.0 ∙ spread-next _ _ c.in-Some.ensures, omega arith)

pub returns : goal.returns
returns c = (sym (c.loop-next.invariant.0 ∙ spread_end _ _ c.in_default.ensures), c.loop-next.invariant.1)
