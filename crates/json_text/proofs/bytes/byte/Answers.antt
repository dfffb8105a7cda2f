-- `json_text::bytes::byte` meets its contract.
-- Assumes nothing.
use mathlib.Core.Path.{sym}
use Rattle.json_text.proofs.Places.{head_in, head-over}
use borrow.Author.Rules.{rules}
use Rattle.json_text.proofs.bytes.byte.Goals as goal

pub returns-then-at-text : goal.returns-then-at-text
returns-then-at-text c = sym (head_in c.args.text.now c.args.at (search rules))

pub returns-else-at-text : goal.returns-else-at-text
returns-else-at-text c = sym (head-over _ _ c.if-at-text.false)
