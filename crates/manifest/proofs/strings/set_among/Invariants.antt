-- `manifest::strings::set_among` meets its contract. The loop's invariant: the set of the name among those left, from their first bit on, is its set.
-- Assumes nothing.
use mathlib.Core.Path.{◌≡◌}
use mathlib.Core.List.{map}
use Prim.Native.Nat.{◌^◌}
use lib.ListN.{drop}
use Rattle.json_text.specs.Strings.{units}
use Rattle.manifest.specs.Strings.{named}
use Rattle.manifest.proofs.strings.set_among.Given as goal

abbrev pub invariant-loop-name : goal.invariant-loop-name
invariant-loop-name l =
    (named (map (λ name. name.now) l.names) 1 (units (drop l.at l.text)) ≡ named (drop l.name-index (map (λ name. name.now) l.names)) l.bit (units (drop l.at l.text)))
    × (l.bit ≡ 2 ^ l.name-index)
