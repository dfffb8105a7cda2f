-- The search through 0..n finds the lowest that passes.
use Rattle.std.proofs.Common.{◌≡◌, ◌∙◌, false, true, rules, tests, arith}
use Rattle.std.proofs.lemmas.Iterator.{first_from_Range}
use Rattle.graph.specs.Search.{is_next, lowest_next}
use Rattle.graph.proofs.Lowest.{found-below, or-end, lowest-most}
use Rattle.graph.proofs.loops.lowest_next.Goals as goal

pub returns : goal.returns
unfolding lowest_next
returns c =
    let a = c.args in
    let test = is_next a.rows.now a.set a.x in
    c.unwrap_or.ensures
    ∙ or-end a.n _ c.find.result
    (found-below test a.n c.find.result
    (first_from_Range _ _ _ c.find.result (λ z. test z ≡ true) (λ z. test z ≡ false) c.find.ensures.ran
    (λ z q k. search (rules, tests))
    (λ z q k. search (rules, tests))))
    (omega (arith, lowest-most test a.n 0))
