-- Whether a send starts a block, by the words of a table and of an estimate.
use Rattle.std.specs.Prelude.{ℕ, ◌+◌, ◌*◌, Bool, ◌&&◌, List, get_or}
use Rattle.delivery.specs.Delivery.{judged, delivered}
use Rattle.table.specs.Words.{argument}
use Rattle.table.specs.Item.{handler_at}
use Rattle.table.specs.Code.{Code}
use Rattle.calculus.specs.Layout.{sets}
use Rattle.clauses.specs.Asks.{row_at}

-- the send at x, with r required and the sender's permissions s, has the name of the block at b in C(x + 1), and is delivered to it
abbrev pub starts_at : Code → (ws est : List ℕ) → (x r s b : ℕ) → Bool
starts_at c ws est x r s b =
    sets c est (row_at (2 * (x + 1))) (32 + argument (get_or ws b 0)) && delivered (judged (argument (get_or ws b 0)) r s (handler_at ws b))
