-- `checker::view::View::block` meets its contract. Assumes nothing.
use mathlib.Core.Path.{◌≡◌, sym, subst}
use mathlib.Core.Bool.{Bool}
use Prim.Native.Nat.{ℕ, ◌+◌}
use Rattle.table.specs.Code.{Code, Node, block}
use Rattle.calculus.specs.Constraint.{Sets}
use Rattle.calculus.specs.Rules.{part, flow}
use Rattle.checker.specs.Decides.{Decides}
use Rattle.checker.proofs.Laws.{both, under-or, on-given}
use Rattle.checker.proofs.view.View.block.Goals as goal

-- what a live block asks
live-block : {e : Sets} (k : Code) (p : ℕ) {a b g : ℕ} {r : Bool} → k.node p ≡ block a b g → Decides e (part p (p + 3)) r → Decides e (flow k p (k.node p)) r
unfolding flow
live-block {e} k p {r = r} n d = subst (λ (m : Node). Decides e (flow k p m) r) (sym n) d

pub returns : goal.returns
returns c = λ k o w n. both (c.entry.ensures k o w n) (under-or (on-given (c.is_live.ensures k o)) (live-block k c.args.p n (c.part.ensures k o w)))
