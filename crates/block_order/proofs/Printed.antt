-- The handler lines that are printed are those of the reports, in order, counted from 0: of two tables whose reports are the same in another
-- order, the lines are the same in that order, apart from positions.
use Prim.Native.Nat.{ℕ, suc}
use mathlib.Core.Path.{◌≡◌, refl, ap}
use mathlib.Core.List.{List, [], ◌∷◌, ◌++◌, map}
use Rattle.table.specs.Code.{Code, code}
use Rattle.calculus.specs.Estimate.{estimate}
use Rattle.report.specs.Lines.{handler_line}
use Rattle.printout.specs.Program.{handler_lines}
use Rattle.block_order.specs.Lines.{report_of, reports, lines_from}

lines_are : (c : Code) (ρ : ℕ) (ws : List ℕ) (position : ℕ) (bs : List ℕ)
    → handler_lines c ρ ws position bs ≡ lines_from position (map (report_of c ρ ws) bs)
unfolding handler_lines lines_from report_of
lines_are c ρ ws position [] = refl
lines_are c ρ ws position (b ∷ bs) =
    let r = report_of c ρ ws b in
    ap (λ (l : List ℕ). handler_line position r.name r.entry r.live r.permissions ++ l) (lines_are c ρ ws (suc position) bs)

pub printed : (ws : List ℕ) (ρ : ℕ) → handler_lines (code ws) ρ (estimate (code ws) ρ) 0 (code ws).blocks ≡ lines_from 0 (reports ws ρ)
unfolding reports
printed ws ρ = lines_are (code ws) ρ (estimate (code ws) ρ) 0 (code ws).blocks
