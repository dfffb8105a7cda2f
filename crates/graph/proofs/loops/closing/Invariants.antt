-- `graph::loops::closing` meets its contract. The loop's invariant: the set is that of m - 1 messages, and the numbers from m on give the same.
use Prim.Native.Nat.{◌-◌}
use mathlib.Core.Path.{◌≡◌}
use Rattle.graph.specs.Search.{lowest_from, reaching, closes}
use Rattle.graph.proofs.loops.closing.Given as goal

abbrev pub invariant-loop-m : goal.invariant-loop-m
invariant-loop-m l =
    (l.set ≡ reaching l.rows l.alive l.t (l.m - 1))
    × (lowest_from (l.limit - l.m) l.m (λ k. closes l.rows l.alive k l.t) ≡ lowest_from (l.limit - 1) 1 (λ k. closes l.rows l.alive k l.t))
