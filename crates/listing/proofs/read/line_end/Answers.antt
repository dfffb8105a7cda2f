-- `listing::read::line_end` meets its contract. Assumes nothing.
use mathlib.Core.Path.{sym, ap, ◌∙◌}
use native.Mathlib.Omega.{arith}
use lib.Dec.{eqb}
use lib.ListN.{drop, length-drop}
use Rattle.std.specs.List.{position}
use Rattle.listing.proofs.Cutting.{behind, size-found, size-none}
use Rattle.listing.proofs.read.line_end.Goals as goal

pub returns-in-Some : goal.returns-in-Some
returns-in-Some c =
    let a = c.args in
    let e = size-found (drop a.at a.text.now) c.in-Some.i (ap (position (λ b. eqb b 10)) (sym (behind a.text.now a.at)) ∙ sym c.first_feed.ensures ∙ c.in-Some.is) in
    (omega (arith, e.0), omega (arith, e.1, length-drop a.at a.text.now))

pub returns-in-None : goal.returns-in-None
returns-in-None c =
    let a = c.args in
    let e = size-none (drop a.at a.text.now) (ap (position (λ b. eqb b 10)) (sym (behind a.text.now a.at)) ∙ sym c.first_feed.ensures ∙ c.in-None.is) in
    (omega (arith, e, length-drop a.at a.text.now), omega arith)
