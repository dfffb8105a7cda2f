use mathlib.Core.Bool.{Bool}
use lib.ListN.{get_or}
use Rattle.class_report.specs.Tally.{raised}
use Rattle.class_report.proofs.Counting.{counted-all}
use mathlib.Core.Path.{ap, ◌∙◌}
use native.Mathlib.Omega.{arith}
use Rattle.class_report.proofs.Counting.{counted-more}
use borrow.Author.Rules.{rules}
use Rattle.class_report.proofs.counts.counted.Goals as goal

pub loop-i-preserved : goal.loop-i-preserved
loop-i-preserved c =
    let l = c.loop-i in
    let a = c.args in (
      search rules,
      l.invariant.1,
      search rules,
      counted-more a.leak.bits a.leaks l.next l.i _ l.invariant.3 (omega arith)
          (c.raised.ensures ∙ ap (λ (b : Bool). raised b (get_or l.next l.i 0)) c.has.ensures),
    )

pub returns : goal.returns
returns c =
    let l = c.loop-i in
    let a = c.args in
    counted-all a.leak.bits a.leaks l.next l.i l.invariant.3 (omega arith)
