use mathlib.Core.Path.{refl, ◌∙◌}
use native.Mathlib.Omega.{arith}
use Rattle.text.proofs.Writing.{wrote-length}
use Rattle.class_report.proofs.Permissions.{listed-none, listed_next, listed-all}
use borrow.Author.Rules.{rules}
use Rattle.class_report.proofs.lines.permission_lines.Goals as goal

pub loop-i-init : goal.loop-i-init
loop-i-init c = (search rules, refl, listed-none _ _ _ _ (omega arith))

pub permission_line-at-requires : goal.permission_line-at-requires
permission_line-at-requires c =
    let l = c.loop-i in
    omega (arith, l.invariant.2.most, l.invariant.1, c.loop-i-test.true, c.requires)

pub loop-i-preserved : goal.loop-i-preserved
loop-i-preserved c =
    let l = c.loop-i in
    let p = c.permission_line-at in
    (search rules, wrote-length p.ensures.wrote ∙ l.invariant.1, listed_next _ _ _ _ c.loop-i-test.true l.invariant.2 p.ensures.wrote p.ensures.upper_bound)

pub returns : goal.returns
returns c = listed-all _ _ _ _ c.loop-i-test.false c.loop-i.invariant.2
