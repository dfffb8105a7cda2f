-- The search through 0..n finds the lowest that passes.
use Rattle.std.proofs.Common.{◌≡◌, false, true, rules, tests}
use Rattle.std.proofs.lemmas.Iterator.{first_from_Range}
use Rattle.graph.specs.Search.{is_free, lowest_free}
use Rattle.graph.proofs.Lowest.{found-below}
use Rattle.graph.proofs.order.lowest_free.Goals as goal

pub returns : goal.returns
unfolding lowest_free
returns c =
    let a = c.args in
    let test = is_free a.rows.now a.left in
    found-below test a.n c.find.result
    (first_from_Range _ _ _ c.find.result (λ z. test z ≡ true) (λ z. test z ≡ false) c.find.ensures.ran
    (λ z q k. search (rules, tests))
    (λ z q k. search (rules, tests)))
