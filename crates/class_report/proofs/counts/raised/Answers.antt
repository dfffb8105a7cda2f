-- `class_report::counts::raised` meets its contract. Assumes nothing.
use mathlib.Core.Path.{sym, ap, ◌∙◌}
use mathlib.Core.Bool.{Bool}
use Rattle.class_report.specs.Tally.{raised}
use Rattle.class_report.proofs.Counting.{raised-more, raised-full}
use Rattle.class_report.proofs.counts.raised.Goals as goal

pub returns-then-n-lt10000 : goal.returns-then-n-lt10000
returns-then-n-lt10000 c =
    let n = c.args.n in
    raised-more n c.if-n-lt10000.true ∙ sym (ap (λ (b : Bool). raised b n) c.if-more.true)

pub returns-else-n-lt10000 : goal.returns-else-n-lt10000
returns-else-n-lt10000 c =
    let n = c.args.n in
    raised-full n c.if-n-lt10000.false ∙ sym (ap (λ (b : Bool). raised b n) c.if-more.true)

pub returns-else-more : goal.returns-else-more
unfolding raised
returns-else-more c =
    let n = c.args.n in
    sym (ap (λ (b : Bool). raised b n) c.if-more.false)
