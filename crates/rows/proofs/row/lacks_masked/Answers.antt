use mathlib.Core.Path.{ap, sym, ◌∙◌}
use mathlib.Core.List.{List}
use Prim.Native.Nat.{ℕ}
use lib.ListN.{take, drop}
use borrow.Author.Rules.{rules}
use Rattle.rows.specs.Rows.{lacking}
use Rattle.rows.proofs.Laws.{length-row}
use Rattle.rows.proofs.Sifting.{masked_row}
use Rattle.rows.proofs.row.lacks_masked.Goals as goal

pub returns : goal.returns
returns c =
    let h = c.lacks_counting.ensures in let a = c.args in let r = c.requires in
    h.2 ∙ ap (λ (ws : List ℕ). lacking ws (take a.row (drop a.to a.est.now)))
    (masked_row _ a.mask.now (take a.row (drop a.from a.est.now)) h.0 (r.2 ∙ sym (length-row a.est.now a.from a.row r.0)) (λ k x w p. search rules) h.1)
