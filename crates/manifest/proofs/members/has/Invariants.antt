-- `manifest::members::has` meets its contract. The loop's invariant: the key is among those left exactly if it is among all of them.
-- Assumes nothing.
use mathlib.Core.Path.{◌≡◌}
use mathlib.Core.Bool.{true}
use Prim.Native.Nat.{◌-◌}
use lib.ListN.{take, drop}
use Rattle.json_text.specs.Bytes.{starts}
use Rattle.json_text.specs.Strings.{units}
use Rattle.json_text.specs.Values.{value, item}
use Rattle.manifest.specs.Members.{has}
use Rattle.manifest.proofs.members.has.Given as goal

abbrev pub invariant-loop : goal.invariant-loop
invariant-loop l =
    has (take l.count (starts (item (value 15) true) (drop l.at l.text))) (units (drop l.key l.text))
    ≡ has (take (l.count - l.counter) (starts (item (value 15) true) (drop l.member l.text))) (units (drop l.key l.text))
