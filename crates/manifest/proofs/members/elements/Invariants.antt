-- `manifest::members::elements` meets its contract. The loop's invariant: what is left, counted from here, is the whole, and each string took a byte.
-- Assumes nothing.
use mathlib.Core.Path.{◌≡◌}
use mathlib.Core.Bool.{false}
use Prim.Native.Nat.{◌+◌, ◌≤◌}
use lib.ListN.{length, drop}
use Rattle.std.specs.Prelude.{Some}
use Rattle.json_text.specs.Bytes.{starts}
use Rattle.json_text.specs.Values.{value, item}
use Rattle.manifest.specs.Members.{counted}
use Rattle.manifest.specs.Answer.{count_of}
use Rattle.manifest.proofs.members.elements.Given as goal

abbrev pub invariant-loop-sum : goal.invariant-loop-sum
invariant-loop-sum l =
    (counted l.names l.hosts (starts (item (value 14) false) (drop l.at l.text)) (count_of (Some l.initial.sum))
    ≡ counted l.names l.hosts (starts (item (value 14) false) (drop l.place l.text)) (count_of (Some l.sum)))
    × (l.sum.others + length (drop l.place l.text) ≤ l.initial.sum.others + length l.text)

abbrev pub decreases-loop-sum : goal.decreases-loop-sum
decreases-loop-sum l = length (drop l.place l.text)
