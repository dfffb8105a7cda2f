-- `checker::opens` meets its contract. Assumes nothing.
use mathlib.Core.Path.{sym, ◌∙◌}
use Rattle.checker.proofs.Guards.{gap-guard, block-guard, term-guard}
use Rattle.checker.proofs.opens.Goals as goal

pub returns-in-Gap : goal.returns-in-Gap
returns-in-Gap c = gap-guard c.requires.0 c.args.p (sym c.item_at.ensures ∙ c.in-Gap.is) c.args.rho.bits

pub returns-in-Block : goal.returns-in-Block
returns-in-Block c = c.within.ensures ∙ block-guard c.requires.0 c.args.p (sym c.item_at.ensures ∙ c.in-Block.is) c.args.rho.bits

pub returns-in-Term : goal.returns-in-Term
returns-in-Term c = term-guard c.requires.0 c.args.p (sym c.item_at.ensures ∙ c.in-Term.is) c.args.rho.bits
