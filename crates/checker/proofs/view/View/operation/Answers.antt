-- `checker::view::View::operation` meets its contract. Assumes nothing.
use Prim.Native.Nat.{◌+◌}
use mathlib.Core.Path.{refl, ◌∙◌}
use native.Mathlib.Omega.{arith}
use Rattle.calculus.specs.Rules.{flow}
use Rattle.checker.proofs.Laws.{decided, both, parted}
use Rattle.checker.proofs.Rows.{operation-is}
use Rattle.checker.proofs.view.View.operation.Goals as goal

pub returns : goal.returns
unfolding flow
returns c = λ k o w. let a = c.args in let v = a.self.now in parted (both (c.parts-whole.ensures k o w) (decided (c.within.ensures ∙ rw (c.of-2.ensures, c.of.ensures, c.operate_at-results.ensures) refl) (operation-is v.layout v.estimate.now v.sized k o w a.p (a.p + 1) a.d (omega (arith, c.requires.0)) c.requires.0 c.requires.1 a.o)))
