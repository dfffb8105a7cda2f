use native.Mathlib.Omega.{arith}
use Rattle.commands.specs.Meanings.{numbers}
use Rattle.commands.proofs.Meant.{numbers-long, position-there, position-more, position-end}
use Rattle.commands.proofs.explain.row.Goals as goal

pub loop-i-init : goal.loop-i-init
unfolding numbers
loop-i-init c = omega arith

pub returns-then-listed-n : goal.returns-then-listed-n
unfolding numbers
returns-then-listed-n c = let l = c.loop-i in omega (arith, l.invariant, position-there c.args.n numbers l.i (omega (arith, numbers-long)) c.if-listed-n.true)

pub loop-i-preserved : goal.loop-i-preserved
unfolding numbers
loop-i-preserved c =
    let l = c.loop-i in
    omega (arith, l.invariant, position-more c.args.n numbers l.i (omega (arith, numbers-long)) c.if-listed-n.false)

pub returns : goal.returns
unfolding numbers
returns c = let l = c.loop-i in omega (arith, l.invariant, position-end c.args.n numbers l.i (omega (arith, numbers-long)))
