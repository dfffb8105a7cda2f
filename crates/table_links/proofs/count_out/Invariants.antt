-- `table_links::count_out` meets its contract. The loop's invariant: the steps that are left lead to where all of them lead.
use mathlib.Core.Path.{◌≡◌}
use Prim.Native.Nat.{◌-◌}
use Rattle.table.specs.Links.{outward}
use Rattle.table_links.proofs.count_out.Given as goal

abbrev pub invariant-loop : goal.invariant-loop
invariant-loop l = outward l.links (l.count - l.counter) l.at ≡ outward l.links l.count l.binder
