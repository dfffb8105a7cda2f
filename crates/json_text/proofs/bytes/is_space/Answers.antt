-- `json_text::bytes::is_space` meets its contract.
-- Assumes nothing.
use mathlib.Core.Path.{sym, ◌∙◌}
use Rattle.json_text.proofs.bytes.is_space.Goals as goal

pub returns-then-is_either : goal.returns-then-is_either
returns-then-is_either c = rw (sym c.is_either.ensures ∙ c.if-is_either.true) c.if-is_either.true

pub returns-else-is_either : goal.returns-else-is_either
returns-else-is_either c = rw (sym c.is_either.ensures ∙ c.if-is_either.false) c.is_either-else-is_either.ensures
