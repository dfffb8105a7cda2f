-- `reading_order::arranged_in` meets its contract. Assumes nothing.
use mathlib.Core.Path.{sym, ◌∙◌, subst}
use Prim.Native.Nat.{ℕ, ◌≤◌}
use native.Mathlib.Omega.{arith}
use lib.ListN.{length, take}
use lib.Seq.{length-take-le}
use Rattle.table.specs.Code.{code}
use Rattle.reading_order.specs.Parts.{ArrangedBy}
use Rattle.reading_order.proofs.arranged_in.Goals as goal

pub slice_bounds-arranged-end : goal.slice_bounds-arranged-end
slice_bounds-arranged-end c =
    let fits : c.words_needed-need.result ≤ length c.args.est.now = omega (arith, c.words_needed-need.ensures, c.requires.1) in
    sym (length-take-le _ _ fits)

pub arranged-requires : goal.arranged-requires
arranged-requires c =
    let fits : c.words_needed-need.result ≤ length c.args.est.now = omega (arith, c.words_needed-need.ensures, c.requires.1) in
    (c.requires.0, length-take-le _ _ fits ∙ c.words_needed-need.ensures, c.requires.2)

pub returns : goal.returns
returns c =
    let a = c.args in
    subst (λ (n : ℕ). ArrangedBy (code a.words.now) (take n a.est.now) a.positions.now c.arranged.new.positions c.arranged.result) c.words_needed-need.ensures c.arranged.ensures
