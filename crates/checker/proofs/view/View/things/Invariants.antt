-- `checker::view::View::things` meets its contract. The loop's invariant: what is asked for each thing passed holds, and f is the next one or none.
-- Assumes nothing.
use Prim.Native.Nat.{◌-◌}
use Rattle.checker.specs.Things.{asked}
use Rattle.checker.proofs.Found.{Looked}
use Rattle.checker.proofs.view.View.things.Given as goal

abbrev pub invariant-loop-f : goal.invariant-loop-f
invariant-loop-f l = Looked l.self.layout l.self.estimate.now l.self.masks.now l.p l.m (asked l.action l.p l.y) l.f

abbrev pub decreases-loop-f : goal.decreases-loop-f
decreases-loop-f l = l.size - l.f
