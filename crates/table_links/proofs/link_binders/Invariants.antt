-- `table_links::link_binders` meets its contract. The loop's invariant: the words that are left, bound from here, give all of them.
use mathlib.Core.Path.{◌≡◌}
use Prim.Native.Nat.{◌-◌}
use lib.ListN.{length}
use Rattle.table.specs.Links.{binders}
use Rattle.table_links.proofs.link_binders.Given as goal

abbrev pub invariant-loop-p : goal.invariant-loop-p
invariant-loop-p l = binders l.words (length l.words - l.p) l.p l.home l.links ≡ binders l.words (length l.words) 0 0 l.initial.links
