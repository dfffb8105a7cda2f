-- `checker::view::View::full` meets its contract. Assumes nothing.
use Prim.Native.Nat.{ℕ, ◌+◌, ◌*◌, ◌≤◌, ◌<◌}
use mathlib.Core.Path.{◌≡◌, sym, ◌∙◌, subst}
use native.Mathlib.Omega.{arith}
use lib.Dec.{T}
use lib.ListN.{length}
use Rattle.std.proofs.lemmas.List.Elements.{All-get_or, All-from_get_or}
use Rattle.calculus.proofs.Digits.{T_true}
use Rattle.rows.proofs.Laws.{same-part, length-row, get_or-row}
use Rattle.queries.proofs.Laws.{row_in}
use Rattle.checker.proofs.Rows.{full_is}
use Rattle.checker.proofs.view.View.full.Goals as goal

pub returns : goal.returns
returns c = λ k o w.
    let r = c.args.r in let v = c.args.self.now in let est = v.estimate.now in
    let inside : r * v.layout.row + v.layout.lead ≤ length est = omega (arith, row_in v.sized _ c.requires, v.sized.wide) in
    let long = length-row est (r * v.layout.row) v.layout.lead inside in
    let z = rw (same-part est (r * v.layout.row) v.layout.lead) at c.saturated.ensures in
    full_is _ _ v.sized k o w _ c.requires
    (λ t i h. sym (get_or-row est (r * v.layout.row) v.layout.lead i h) ∙ All-get_or (λ (x : ℕ). x ≡ 4294967295) _ i 0 (omega (arith, long, h)) (z.0 (T_true _ t)))
    (λ f. subst T (sym (z.1 (All-from_get_or (λ (x : ℕ). x ≡ 4294967295) _ 0 (λ i h. let j : i < v.layout.lead = omega (arith, long, h) in get_or-row est (r * v.layout.row) v.layout.lead i j ∙ f i j)))) tt)
