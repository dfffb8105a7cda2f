-- `class_report::stream::front_of` meets its contract. Assumes nothing.
use mathlib.Core.Path.{sym, ap, ◌∙◌}
use Rattle.class_report.specs.Stream.{sized}
use Rattle.class_report.proofs.Fronts.{front-nothing, front-short, front-sized}
use Rattle.class_report.proofs.stream.front_of.Goals as goal

pub returns-then-stream-eq0 : goal.returns-then-stream-eq0
returns-then-stream-eq0 c = sym (front-nothing c.args.stream.now c.if-stream-eq0.true)

pub returns-then-stream-lt4 : goal.returns-then-stream-lt4
returns-then-stream-lt4 c = sym (front-short c.args.stream.now c.if-stream-eq0.false c.if-stream-lt4.true)

pub returns : goal.returns
returns c =
    let s = c.args.stream.now in
    c.front_sized.ensures ∙ ap (sized s) c.word_at.ensures ∙ sym (front-sized s c.if-stream-eq0.false c.if-stream-lt4.false)
