-- `listing::write::put_line` meets its contract. Assumes nothing.
use Prim.Native.Nat.{ℕ, ◌*◌}
use mathlib.Core.Path.{ap₂}
use mathlib.Core.List.{List, ◌++◌}
use lib.ListN.{replicate}
use Rattle.text.proofs.Writing.{reworded, then, line_taken}
use Rattle.listing.specs.Spelling.{space}
use Rattle.listing.proofs.write.put_line.Goals as goal

pub returns : goal.returns
returns c =
    let words = ap₂ (λ (n : ℕ) (l : List ℕ). replicate (2 * n) space ++ l) c.from.ensures (line_taken c.spell-n.ensures.line) in
    reworded words (then c.put_spaces-next.ensures c.put.ensures)
