-- `checker::broken` meets its contract. Assumes nothing.
use mathlib.Core.Path.{sym}
use native.Mathlib.Omega.{arith}
use Rattle.table.specs.Code.{code}
use Rattle.table.proofs.Linked.{linked}
use Rattle.calculus.specs.Layout.{sets}
use Rattle.queries.proofs.Given.{size_is, sized}
use Rattle.checker.proofs.Asked.{asked-next, lowest-broken}
use Rattle.checker.proofs.Lowered.{lowered_none}
use Rattle.checker.proofs.broken.Goals as goal

pub invariant_of-view : goal.invariant_of-view
invariant_of-view c = record { tabled = size_is c.requires.0; sized = sized c.requires.0 c.requires.1; masked = c.requires.0.masked.long }

pub loop-p-init : goal.loop-p-init
loop-p-init c = lowered_none (λ q h x i. absurd (omega arith))

pub loop-p-preserved : goal.loop-p-preserved
loop-p-preserved c =
    let a = c.args in let k = code a.words.now in let i = c.loop-p in asked-next k (sets k a.est.now) a.rho.bits i.p i.invariant c.word-lowest.ensures

pub returns : goal.returns
returns c =
    let a = c.args in let i = c.loop-p in
    lowest-broken _ (linked a.words.now c.requires.0.readable) a.rho.bits a.est.now (sym c.requires.0.laid.size) (omega arith) i.invariant
