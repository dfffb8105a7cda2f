-- `audit::judge::judged` meets its contract.
-- Assumes nothing.
use mathlib.Core.Path.{◌∙◌}
use Rattle.table.specs.Code.{code}
use Rattle.audit.specs.Audited.{said}
use Rattle.audit.proofs.Steps.{high-rho, low-rho}
use Rattle.audit.proofs.judge.judged.Goals as goal

pub returns-then-rho-ge16777216 : goal.returns-then-rho-ge16777216
unfolding said
returns-then-rho-ge16777216 c =
    let a = c.args in high-rho (code a.words.now) a.rho a.est.now c.if-rho-ge16777216.true

pub returns : goal.returns
returns c =
    let a = c.args in c.sized.ensures ∙ low-rho (code a.words.now) a.rho a.est.now c.if-rho-ge16777216.false
