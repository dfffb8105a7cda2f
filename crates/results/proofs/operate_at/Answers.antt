-- `results::operate_at` meets its contract.
-- Assumes nothing.
use mathlib.Core.Path.{ap₂, ◌∙◌}
use mathlib.Core.List.{List}
use Prim.Native.Nat.{ℕ}
use Rattle.calculus.proofs.OperationResults.{operation_mask}
use Rattle.results.proofs.Sides.{side_cut}
use Rattle.results.proofs.operate_at.Goals as goal

pub returns : goal.returns
returns c =
    let a = c.args in
    c.operate.ensures
    ∙ ap₂ (λ (xs ys : List ℕ). operation_mask a.o xs ys) (side_cut a.est.now a.x a.lead c.requires.2 c.requires.0)
    (side_cut a.est.now a.y a.lead c.requires.2 c.requires.1)
