-- `table_links::hop` meets its contract. The loop's invariant: the steps that are left lead to where all of them lead.
use mathlib.Core.Path.{◌≡◌}
use Prim.Native.Nat.{◌-◌}
use Rattle.table.specs.Links.{hops}
use Rattle.table_links.proofs.hop.Given as goal

abbrev pub invariant-loop : goal.invariant-loop
invariant-loop l = hops l.links (l.count - l.counter) l.at ≡ hops l.links l.count l.p
