-- `table_links::bind_parts` meets its contract. The loop's invariant: the parts that are left, bound from here, give all of them.
use mathlib.Core.Path.{◌≡◌}
use Prim.Native.Nat.{suc}
use lib.ListN.{drop}
use Rattle.table.specs.Words.{parts}
use Rattle.table.specs.Links.{bind_parts}
use Rattle.table_links.proofs.bind_parts.Given as goal

abbrev pub invariant-loop-i : goal.invariant-loop-i
invariant-loop-i l = bind_parts l.links l.p l.binder (drop l.i (parts l.w)) l.at ≡ bind_parts l.initial.links l.p l.binder (parts l.w) (suc l.p)
