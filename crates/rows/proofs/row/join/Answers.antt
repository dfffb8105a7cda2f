use mathlib.Core.Path.{subst}
use mathlib.Core.List.{List}
use Prim.Native.Nat.{ℕ, ◌*◌}
use borrow.Author.Rules.{rules}
use Rattle.rows.specs.Rows.{Poured}
use Rattle.rows.proofs.Sifting.{whole_row}
use Rattle.rows.proofs.row.join.Goals as goal

pub returns : goal.returns
returns c =
    let h = c.join_counting.ensures in let a = c.args in
    subst (λ (ws : List ℕ). Poured a.est.now c.join_counting.new.est (a.b * a.row) ws c.join_counting.result) (whole_row _ _ _ (λ k x w p. search rules) h.1) h.2
