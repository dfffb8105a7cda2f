-- The cycle of calls {item, items, value}: the measure is the nesting, and how far a call is from a value.
-- The loop's invariant: where the items end from here is where they end from the start.
use Prim.Native.Nat.{◌+◌, ◌*◌}
use mathlib.Core.Path.{◌≡◌}
use lib.ListN.{length, drop}
use Rattle.json_text.specs.Bytes.{after}
use Rattle.json_text.specs.Values.{item, items, value}
use Rattle.json_text.proofs.values.+item_items_value.Given as goal

abbrev pub decreases-item : goal.decreases-item
decreases-item l = 3 * l.nest + 1

abbrev pub decreases-items : goal.decreases-items
decreases-items l = 3 * l.nest + 2

abbrev pub decreases-value : goal.decreases-value
decreases-value l = 3 * l.nest

abbrev pub invariant-items-loop-q : goal.invariant-items-loop-q
invariant-items-loop-q l = items (value l.nest) l.keyed (drop l.at l.text) ≡ after (item (value l.nest) l.keyed) (drop l.p l.text)

abbrev pub decreases-items-loop-q : goal.decreases-items-loop-q
decreases-items-loop-q l = length (drop l.p l.text)
