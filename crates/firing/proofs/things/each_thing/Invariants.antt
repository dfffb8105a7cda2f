-- `firing::things::each_thing` meets its contract. Assumes nothing.
use Prim.Native.Nat.{◌+◌, ◌-◌, ◌*◌, ◌<◌}
use mathlib.Core.Path.{◌≡◌}
use mathlib.Core.Bool.{true}
use Rattle.calculus.specs.Estimate.{facts}
use Rattle.queries.specs.Things.{both}
use Rattle.firing.proofs.EachThing.{Left}
use Rattle.firing.proofs.things.each_thing.Given as goal

abbrev pub invariant-loop-f : goal.invariant-loop-f
invariant-loop-f l =
    (l.f < l.l.size → both l.est l.masks l.l.lead (2 * (l.x + 1) * l.l.row) (l.z * l.l.row) l.f ≡ true)
    × Left l.l l.masks l.what l.x l.y l.z l.initial.est l.est l.f × (facts l.est ≡ facts l.initial.est + l.added)

abbrev pub decreases-loop-f : goal.decreases-loop-f
decreases-loop-f l = l.l.size - l.f
