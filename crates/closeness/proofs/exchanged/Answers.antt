-- `closeness::exchanged` meets its contract. Assumes nothing.
use mathlib.Core.Path.{sym, ◌∙◌}
use Rattle.closeness.proofs.Laws.{exchanged-first, exchanged-second, exchanged-rest}
use Rattle.closeness.proofs.exchanged.Goals as goal

pub returns-then-byte_at : goal.returns-then-byte_at
returns-then-byte_at c = let a = c.args in sym (exchanged-first a.x.now a.y.now a.i (λ e. c.if-byte_at.true (c.byte_at.ensures ∙ e ∙ sym c.byte_at-2.ensures)))

pub returns-then-byte_at-2 : goal.returns-then-byte_at-2
returns-then-byte_at-2 c = let a = c.args in sym (exchanged-second a.x.now a.y.now a.i (sym c.byte_at.ensures ∙ c.if-byte_at.false ∙ c.byte_at-2.ensures) (λ e. c.if-byte_at-2.true (c.byte_at-3.ensures ∙ e ∙ sym c.byte_at-4.ensures)))

pub returns : goal.returns
returns c = let a = c.args in c.agree.ensures ∙ exchanged-rest a.x.now a.y.now a.i (sym c.byte_at.ensures ∙ c.if-byte_at.false ∙ c.byte_at-2.ensures) (sym c.byte_at-3.ensures ∙ c.if-byte_at-2.false ∙ c.byte_at-4.ensures)
