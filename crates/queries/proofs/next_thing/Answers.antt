-- `queries::next_thing` meets its contract: the lowest digit of the word of `from`, or else of a later one. Assumes nothing.
use mathlib.Core.Path.{sym}
use native.Mathlib.Omega.{arith}
use Rattle.permset.specs.Sets.{lowest}
use Rattle.queries.proofs.Nexts.{next-found}
use Rattle.queries.proofs.next_thing.Goals as goal

pub returns-then-bits-ne0 : goal.returns-then-bits-ne0
unfolding lowest
returns-then-bits-ne0 c = next-found _ _ _ _ _ _ _ (sym c.common_from-bits.ensures) (c.type_inv.est _).fits c.if-bits-ne0.true _ _ (omega arith) (λ g l m. absurd (omega arith))
