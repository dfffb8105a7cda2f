-- `firing::fire::add` meets its contract: an arm for each effect. Assumes nothing.
use native.Mathlib.Omega.{arith}
use Rattle.table.specs.Code.{code}
use Rattle.calculus.specs.Rules.{two_rule}
use Rattle.clauses.specs.Asks.{effect}
use Rattle.queries.proofs.Given.{sized, linked-code}
use Rattle.queries.proofs.Laws.{row_in}
use Rattle.firing.proofs.Effects.{for-code}
use Rattle.firing.proofs.Tags.{is-thing}
use Rattle.firing.proofs.fire.add.Goals as goal

pub wake-requires : goal.wake-requires
unfolding effect two_rule code
wake-requires c = let z = sized c.requires.0 c.requires.1 in let p = rw c.in-Live.is at c.requires.2 in (z, p)

pub put-requires : goal.put-requires
unfolding effect two_rule code
put-requires c = let e = c.args.e in let z = sized c.requires.0 c.requires.1 in let p = rw c.in-Put.is at c.requires.2 in (row_in z e.x p.0, omega (arith, p.1, z.wide))

pub fill-requires : goal.fill-requires
unfolding effect two_rule code
fill-requires c = let z = sized c.requires.0 c.requires.1 in let p = rw c.in-Fill.is at c.requires.2 in (z, p)

pub flow-requires : goal.flow-requires
unfolding effect two_rule code
flow-requires c = let e = c.args.e in let z = sized c.requires.0 c.requires.1 in let p = rw c.in-Flow.is at c.requires.2 in (row_in z e.x p.0, row_in z e.y p.1, z.most)

pub pass-requires : goal.pass-requires
unfolding effect two_rule code
pass-requires c = let e = c.args.e in let z = sized c.requires.0 c.requires.1 in let p = rw c.in-Pass.is at c.requires.2 in (z, p.0, p.1, p.2, c.requires.0.masked.long)

pub permit-requires : goal.permit-requires
unfolding effect two_rule code
permit-requires c = let z = sized c.requires.0 c.requires.1 in let p = rw c.in-Permit.is at c.requires.2 in (z, p.0, p.1)

pub operate_at-requires : goal.operate_at-requires
unfolding effect two_rule code
operate_at-requires c = let z = sized c.requires.0 c.requires.1 in let p = rw c.in-Operate.is at c.requires.2 in (z, p.0, p.1, p.2, p.3)

pub part-requires : goal.part-requires
unfolding effect two_rule code
part-requires c = let z = sized c.requires.0 c.requires.1 in let p = rw c.in-Part.is at c.requires.2 in (z, p.0, p.1)

pub parts-requires : goal.parts-requires
unfolding effect two_rule code
parts-requires c = let z = sized c.requires.0 c.requires.1 in let p = rw c.in-Parts.is at c.requires.2 in (z, p.0, p.1, p.2)

pub branches-requires : goal.branches-requires
unfolding effect two_rule code
branches-requires c = let z = sized c.requires.0 c.requires.1 in let p = rw c.in-Branches.is at c.requires.2 in (z, p.0, p.1, p.2)

pub fire_things-requires : goal.fire_things-requires
unfolding effect two_rule code
fire_things-requires c = let e = c.args.e in (sized c.requires.0 c.requires.1, (is-thing e.what c.in-Enter.is).1 _ _ _ e.x e.y e.z c.requires.2)

pub returns-in-Live : goal.returns-in-Live
unfolding effect two_rule code
returns-in-Live c = rw c.in-Live.is (for-code c.wake.ensures.fired_in c.requires.0.laid tt)

pub returns-in-Put : goal.returns-in-Put
unfolding effect two_rule code
returns-in-Put c = rw c.in-Put.is (for-code c.put.ensures c.requires.0.laid tt)

pub returns-in-Fill : goal.returns-in-Fill
unfolding effect two_rule code
returns-in-Fill c = rw c.in-Fill.is (for-code c.fill.ensures.fired_for c.requires.0.laid c.requires.1)

pub returns-in-Flow : goal.returns-in-Flow
unfolding effect two_rule code
returns-in-Flow c = rw c.in-Flow.is (for-code c.flow.ensures c.requires.0.laid tt)

pub returns-in-Pass : goal.returns-in-Pass
unfolding effect two_rule code
returns-in-Pass c = rw c.in-Pass.is (for-code c.pass.ensures c.requires.0.laid (c.requires.1, c.requires.0.masked))

pub returns-in-Permit : goal.returns-in-Permit
unfolding effect two_rule code
returns-in-Permit c = rw c.in-Permit.is (for-code c.permit.ensures c.requires.0.laid c.requires.1)

pub returns-in-Operate : goal.returns-in-Operate
unfolding effect two_rule code
returns-in-Operate c = rw c.in-Operate.is (for-code c.operate_at.ensures c.requires.0.laid c.requires.1)

pub returns-in-Part : goal.returns-in-Part
unfolding effect two_rule code
returns-in-Part c = rw c.in-Part.is (for-code c.part.ensures c.requires.0.laid tt)

pub returns-in-Parts : goal.returns-in-Parts
unfolding effect two_rule code
returns-in-Parts c = rw c.in-Parts.is (for-code c.parts.ensures c.requires.0.laid tt)

pub returns-in-Branches : goal.returns-in-Branches
unfolding effect two_rule code
returns-in-Branches c = rw c.in-Branches.is (for-code c.branches.ensures c.requires.0.laid tt)

pub returns-in-Send : goal.returns-in-Send
unfolding effect two_rule code
returns-in-Send c = rw c.in-Send.is c.send.ensures

pub returns-in-Enter : goal.returns-in-Enter
unfolding effect two_rule code
returns-in-Enter c = rw (is-thing c.args.e.what c.in-Enter.is).0 (for-code c.fire_things.ensures c.requires.0.laid (linked-code c.requires.0, c.requires.0.masked))
