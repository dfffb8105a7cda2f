-- `audit::judge::ruled` meets its contract.
-- Assumes nothing.
use native.Mathlib.Omega.{arith}
use Rattle.table.specs.Code.{code}
use Rattle.audit.specs.Audited.{said}
use Rattle.audit.proofs.Steps.{rule-broken, rules-obeyed}
use Rattle.audit.proofs.judge.ruled.Goals as goal

pub returns-then-p-l : goal.returns-then-p-l
unfolding said
returns-then-p-l c =
    rule-broken (code c.args.words.now) c.args.rho.bits c.args.est.now _ c.broken-p.ensures (omega (arith, c.if-p-l.true, c.requires.0.laid.size))

pub returns : goal.returns
unfolding said
returns c =
    rules-obeyed (code c.args.words.now) c.args.rho.bits c.args.est.now _ c.broken-p.ensures (omega (arith, c.if-p-l.false, c.requires.0.laid.size)) _
    c.leak.ensures
