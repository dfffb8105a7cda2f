use mathlib.Core.Path.{ap, ◌∙◌}
use mathlib.Core.List.{List}
use Prim.Native.Nat.{ℕ}
use lib.ListN.{take, drop}
use borrow.Author.Rules.{rules}
use Rattle.rows.specs.Rows.{lacking}
use Rattle.rows.proofs.Sifting.{whole_row}
use Rattle.rows.proofs.row.lacks.Goals as goal

pub returns : goal.returns
returns c =
    let h = c.lacks_counting.ensures in let a = c.args in
    h.2 ∙ ap (λ (ws : List ℕ). lacking ws (take a.row (drop a.to a.est.now))) (whole_row _ _ _ (λ k x w p. search rules) h.1)
