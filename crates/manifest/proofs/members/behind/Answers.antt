-- `manifest::members::behind` meets its contract.
-- Assumes nothing.
use mathlib.Core.Path.{sym}
use Rattle.json_text.proofs.Places.{tail-drop, tail-over}
use Rattle.manifest.proofs.members.behind.Goals as goal

pub returns-then-at-text : goal.returns-then-at-text
returns-then-at-text c = sym (tail-drop c.args.text.now c.args.at)

pub returns-else-at-text : goal.returns-else-at-text
returns-else-at-text c = sym (tail-over c.args.text.now c.args.at c.if-at-text.false)
