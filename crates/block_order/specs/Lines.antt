-- The printed handler lines apart from their positions.
use Rattle.std.specs.Prelude.{ℕ, suc, Bool, List, [], ◌∷◌, ◌++◌, map}
use Rattle.table.specs.Code.{Code, code}
use Rattle.calculus.specs.Constraint.{L}
use Rattle.calculus.specs.Rules.{name_of, guarded}
use Rattle.calculus.specs.Layout.{sets}
use Rattle.calculus.specs.Estimate.{estimate, permissions_at}
use Rattle.report.specs.Lines.{handler_line}

-- what a handler's line says besides its position
pub record Report : Type 0 where
  pub name : ℕ
  pub entry : Bool
  pub live : Bool
  pub permissions : ℕ

-- of the block at b, from the words of an estimate
unfoldable pub report_of : Code → (ρ : ℕ) (estimate : List ℕ) → ℕ → Report
unfolding sets permissions_at
report_of c ρ ws b =
    record { name = name_of (c.node b); entry = guarded (c.node b) ρ; live = sets c ws (L b) 0; permissions = permissions_at c ρ ws b }

-- of the blocks of a table in order, from its least estimate
unfoldable pub reports : List ℕ → ℕ → List Report
unfolding report_of estimate
reports ws ρ = map (report_of (code ws) ρ (estimate (code ws) ρ)) (code ws).blocks

-- the lines of reports, the first at this position
unfoldable pub lines_from : ℕ → List Report → List ℕ
lines_from position [] = []
lines_from position (r ∷ rs) = handler_line position r.name r.entry r.live r.permissions ++ lines_from (suc position) rs
