use mathlib.Core.Path.{subst, sym, ◌∙◌}
use mathlib.Core.List.{List}
use Prim.Native.Nat.{ℕ, ◌*◌}
use borrow.Author.Rules.{rules}
use lib.ListN.{take, drop}
use Rattle.rows.specs.Rows.{Poured}
use Rattle.rows.proofs.Laws.{length-row}
use Rattle.rows.proofs.Sifting.{masked_row}
use Rattle.rows.proofs.row.join_masked.Goals as goal

pub returns : goal.returns
returns c =
    let h = c.join_counting.ensures in let a = c.args in let r = c.requires in
    subst (λ (ws : List ℕ). Poured a.est.now c.join_counting.new.est (a.b * a.row) ws c.join_counting.result)
    (masked_row _ a.mask.now (take a.row (drop (a.a * a.row) a.est.now)) h.0 (r.3 ∙ sym (length-row a.est.now (a.a * a.row) a.row r.0)) (λ k x w p. search rules) h.1) h.2
