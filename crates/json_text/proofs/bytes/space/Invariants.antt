-- `json_text::bytes::space` meets its contract. The loop's invariant: behind the white space from here is behind that from the start.
-- Assumes nothing.
use mathlib.Core.Path.{◌≡◌}
use Prim.Native.Nat.{◌-◌}
use lib.ListN.{length, drop}
use Rattle.json_text.specs.Bytes.{space}
use Rattle.json_text.proofs.bytes.space.Given as goal

abbrev pub invariant-loop-p : goal.invariant-loop-p
invariant-loop-p l = space (drop l.at l.text) ≡ space (drop l.p l.text)

abbrev pub decreases-loop-p : goal.decreases-loop-p
decreases-loop-p l = length l.text - l.p
