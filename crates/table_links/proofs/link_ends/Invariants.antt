-- `table_links::link_ends` meets its contract. The loop's invariant: the ends that are left, made from here, give all of them.
use mathlib.Core.Path.{◌≡◌}
use lib.ListN.{length}
use Rattle.table.specs.Links.{ends}
use Rattle.table_links.proofs.link_ends.Given as goal

abbrev pub invariant-loop-p : goal.invariant-loop-p
invariant-loop-p l = ends l.words l.p l.links ≡ ends l.words (length l.words) l.initial.links
