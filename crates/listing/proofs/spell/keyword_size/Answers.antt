-- `listing::spell::keyword_size` meets its contract. Assumes nothing.
use Prim.Native.Nat.{ℕ, ◌*◌}
use mathlib.Core.Path.{ap, ◌∙◌}
use native.Mathlib.Omega.{arith}
use mathlib.Core.List.{List}
use lib.ListN.{length, get_or}
use Rattle.listing.proofs.Letters.{letters-length, size-at}
use Rattle.listing.proofs.spell.keyword_size.Goals as goal

pub bounds-letters-k : goal.bounds-letters-k
bounds-letters-k c =
    omega (arith, ap length c.requires.0 ∙ letters-length)

pub returns : goal.returns
returns c =
    c.from.ensures ∙ ap (λ (l : List ℕ). get_or l (16 * c.args.k) 0) c.requires.0 ∙ size-at c.args.k c.requires.1
