-- The least estimate of d lies inside the sets read from the least estimate of c, and the leak of d inside the leak of c.
use Prim.Native.Nat.{ℕ, ◌<◌}
use mathlib.Core.Path.{sym, ap, ◌∙◌, subst}
use native.Mathlib.Omega.{arith}
use lib.Dec.{T}
use Rattle.permset.specs.Sets.{width, member}
use Rattle.table.specs.Code.{Code, Node, Linked}
use Rattle.calculus.specs.Constraint.{P}
use Rattle.calculus.specs.Rules.{guarded, leak_of}
use Rattle.calculus.specs.Layout.{sets, span, LiesIn}
use Rattle.calculus.specs.Estimate.{estimate, leak}
use Rattle.calculus.proofs.Places.{span-lt}
use Rattle.calculus.proofs.Rows.{sets-allowed}
use Rattle.calculus.proofs.Least.{estimate-well, estimate-obeys, estimate-least}
use Rattle.calculus.proofs.Leak.{leak-has, leak-only}
use Rattle.renaming.specs.Renaming.{Renamed, rename_row, carried}
use Rattle.renaming.proofs.Nodes.{renamed-alike}
use Rattle.renaming.proofs.Elements.{el-plain}
use Rattle.renaming.proofs.Carried.{carried-obeys}

module _ (σ : ℕ → ℕ) (d c : Code) (m : Renamed σ d c) (k : Linked d) (l : Linked c) (ρ : ℕ) where
  pub estimate-inside : LiesIn d (estimate d ρ) (carried σ d c (sets c (estimate c ρ)))
  estimate-inside =
      let e = sets c (estimate c ρ) in
      estimate-least d k ρ (carried σ d c e) (carried-obeys σ d c m k e ρ (estimate-obeys c l ρ))

  -- a permission of the leak of d is one of the leak of c
  pub leak_of-inside : (x : ℕ) → leak_of d ρ (sets d (estimate d ρ)) x → leak_of c ρ (sets c (estimate c ρ)) x
  unfolding carried rename_row span
  leak_of-inside x (b, h, g, t) =
      let e = sets c (estimate c ρ) in
      let n : x < width = span-lt d (P b) x (sets-allowed d (estimate d ρ) (P b) x t) in (
        σ b,
        m.blocks b h,
        subst T (sym (ap (λ (y : Node). guarded y ρ) (m.node b) ∙ (renamed-alike σ (d.node b)).guards ρ)) g,
        subst (λ (v : ℕ). T (e (P (σ b)) v)) (el-plain σ d c x (omega arith)) (estimate-inside (P b) x t),
      )

  pub leak-inside : (x : ℕ) → T (member (leak d ρ (estimate d ρ)) x) → T (member (leak c ρ (estimate c ρ)) x)
  leak-inside x t =
      leak-has c ρ (estimate c ρ) (estimate-well c l ρ) x
      (leak_of-inside x (leak-only d ρ (estimate d ρ) (estimate-well d k ρ) k x t))
