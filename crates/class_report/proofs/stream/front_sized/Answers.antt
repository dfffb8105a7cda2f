-- `class_report::stream::front_sized` meets its contract. Assumes nothing.
use mathlib.Core.Path.{sym}
use Rattle.class_report.proofs.Fronts.{sized-long, sized-short, sized-whole}
use Rattle.class_report.proofs.stream.front_sized.Goals as goal

pub returns-then-size-gt256 : goal.returns-then-size-gt256
returns-then-size-gt256 c = let a = c.args in sym (sized-long a.stream.now a.size c.if-size-gt256.true)

pub returns-then-stream-words : goal.returns-then-stream-words
returns-then-stream-words c = let a = c.args in sym (sized-short a.stream.now a.size c.if-size-gt256.false c.if-stream-words.true)

pub returns : goal.returns
returns c = let a = c.args in sym (sized-whole a.stream.now a.size c.if-size-gt256.false c.if-stream-words.false)
