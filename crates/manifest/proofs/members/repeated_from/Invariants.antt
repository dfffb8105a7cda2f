-- `manifest::members::repeated_from` meets its contract. The loop's invariant: the members before here are the first ones, as many as were
-- counted, their keys are marked, and what is left to find is found from here.
-- Assumes nothing.
use mathlib.Core.Path.{◌≡◌}
use mathlib.Core.Bool.{true}
use mathlib.Core.List.{[]}
use Prim.Native.Nat.{◌+◌, ◌≤◌}
use lib.ListN.{length, take, drop}
use Rattle.json_text.specs.Bytes.{starts}
use Rattle.json_text.specs.Values.{value, item}
use Rattle.manifest.specs.Members.{repeated}
use Rattle.manifest.proofs.Marks.{Marked}
use Rattle.manifest.proofs.members.repeated_from.Given as goal

abbrev pub invariant-loop-at : goal.invariant-loop-at
invariant-loop-at l =
    (repeated [] (starts (item (value 15) true) (drop l.at l.text))
    ≡ repeated (take l.count (starts (item (value 15) true) (drop l.at l.text))) (starts (item (value 15) true) (drop l.member l.text)))
    × (drop l.count (starts (item (value 15) true) (drop l.at l.text)) ≡ starts (item (value 15) true) (drop l.member l.text))
    × (l.count + length (drop l.member l.text) ≤ length l.text)
    × Marked l.marks (take l.count (starts (item (value 15) true) (drop l.at l.text)))
    × (length l.marks ≡ length l.initial.marks)

abbrev pub decreases-loop-at : goal.decreases-loop-at
decreases-loop-at l = length (drop l.member l.text)
