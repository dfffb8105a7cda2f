-- `manifest::members::find` meets its contract. The loop's invariant: the key's value from here is its value from the start.
-- Assumes nothing.
use mathlib.Core.Path.{◌≡◌}
use mathlib.Core.Bool.{true}
use lib.ListN.{length, drop}
use Rattle.json_text.specs.Bytes.{starts}
use Rattle.json_text.specs.Values.{value, item}
use Rattle.manifest.specs.Members.{find}
use Rattle.manifest.proofs.members.find.Given as goal

abbrev pub invariant-loop-member : goal.invariant-loop-member
invariant-loop-member l =
    find l.key (starts (item (value 15) true) (drop l.initial.member l.text)) ≡ find l.key (starts (item (value 15) true) (drop l.member l.text))

abbrev pub decreases-loop-member : goal.decreases-loop-member
decreases-loop-member l = length (drop l.member l.text)
