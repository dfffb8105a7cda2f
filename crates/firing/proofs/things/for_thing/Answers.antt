-- `firing::things::for_thing` meets its contract: an arm for each effect. Assumes nothing.
use Prim.Native.Nat.{◌+◌, ◌*◌}
use mathlib.Core.Path.{sym, ap}
use native.Mathlib.Numerals.{add-one}
use native.Mathlib.Omega.{arith}
use Rattle.calculus.proofs.Folds.{fire-none}
use Rattle.clauses.specs.Asks.{for_thing}
use Rattle.clauses.proofs.Sorts.{row-C, row-B}
use Rattle.queries.proofs.Laws.{row_in}
use Rattle.firing.specs.Placed.{entering}
use Rattle.firing.proofs.Tags.{is-other}
use Rattle.firing.proofs.things.for_thing.Goals as goal

pub wake-requires : goal.wake-requires
unfolding entering for_thing
wake-requires c = (c.requires.0, c.requires.1.body (ap entering c.in-Enter.is))

pub lift-requires : goal.lift-requires
unfolding entering for_thing
lift-requires c = (c.requires.0, c.requires.1.body (ap entering c.in-Lower.is), c.requires.1.word)

pub flow-requires : goal.flow-requires
unfolding entering for_thing
flow-requires c = let a = c.args in (row_in c.requires.0 a.y c.requires.1.row, row_in c.requires.0 (2 * a.f + 1) (omega (arith, c.requires.1.thing)), c.requires.0.most)

pub flow-requires-in-Take : goal.flow-requires-in-Take
unfolding entering for_thing
flow-requires-in-Take c = let a = c.args in (row_in c.requires.0 (2 * a.f + 1) (omega (arith, c.requires.1.thing)), row_in c.requires.0 a.y c.requires.1.row, c.requires.0.most)

pub flow-requires-in-Back : goal.flow-requires-in-Back
unfolding entering for_thing
flow-requires-in-Back c = let a = c.args in (row_in c.requires.0 (2 * (a.f + 1)) (omega (arith, c.requires.1.body (ap entering c.in-Back.is))), row_in c.requires.0 a.y c.requires.1.row, c.requires.0.most)

pub returns-in-Enter : goal.returns-in-Enter
unfolding entering for_thing
returns-in-Enter c = rw c.in-Enter.is (rw add-one at c.wake.ensures.fired_in)

pub returns-in-Lower : goal.returns-in-Lower
unfolding entering for_thing
returns-in-Lower c = rw c.in-Lower.is (rw add-one at c.lift.ensures)

pub returns-in-Hand : goal.returns-in-Hand
unfolding entering for_thing
returns-in-Hand c = rw c.in-Hand.is (rw row-B at c.flow.ensures)

pub returns-in-Take : goal.returns-in-Take
unfolding entering for_thing
returns-in-Take c = rw c.in-Take.is (rw row-B at c.flow-in-Take.ensures)

pub returns-in-Back : goal.returns-in-Back
unfolding entering for_thing
returns-in-Back c = rw c.in-Back.is (rw (row-C, add-one) at c.flow-in-Back.ensures)

pub returns-in_default : goal.returns-in_default
unfolding entering for_thing
returns-in_default c =
    let d = c.in_default in
    rw (is-other _ d.not-Enter d.not-Lower d.not-Hand d.not-Take d.not-Back) (record { words = λ k o u. sym (fire-none k _); count = omega arith })
