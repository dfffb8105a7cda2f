-- `lines::line_stop` meets its contract. Assumes nothing.
use mathlib.Core.Path.{sym, ap, ◌∙◌}
use native.Mathlib.Omega.{arith}
use lib.Dec.{eqb}
use lib.ListN.{drop, length-drop}
use Rattle.std.specs.List.{position}
use Rattle.listing.proofs.Cutting.{behind}
use Rattle.lines.proofs.Laws.{bare-found, bare-none}
use Rattle.lines.proofs.line_stop.Goals as goal

pub returns-in-Some : goal.returns-in-Some
returns-in-Some c =
    let a = c.args in
    let e = bare-found (drop a.start a.text.now) c.in-Some.i (ap (position (λ b. eqb b 10)) (sym (behind a.text.now a.start)) ∙ sym c.first_feed.ensures ∙ c.in-Some.is) in
    record { size = omega (arith, e.0); after = omega arith; inside = omega (arith, e.1, length-drop a.start a.text.now) }

pub returns-in-None : goal.returns-in-None
returns-in-None c =
    let a = c.args in
    let e = bare-none (drop a.start a.text.now) (ap (position (λ b. eqb b 10)) (sym (behind a.text.now a.start)) ∙ sym c.first_feed.ensures ∙ c.in-None.is) in
    record { size = omega (arith, e, length-drop a.start a.text.now); after = omega arith; inside = omega arith }
