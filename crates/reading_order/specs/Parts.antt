-- What the parts of a call promise.
use Rattle.std.specs.Prelude.{ℕ, Option, Result, ◌≤◌, ◌<◌, ◌≡◌, List, length, get_or}
use Rattle.table.specs.Code.{Code}
use Rattle.rows.specs.declared.layout.Layout.{Layout}
use Rattle.graph.specs.declared.Arrangement.{Arrangement}
use Rattle.graph.specs.Answer.{written, starting_with, Means}
use Rattle.graph.specs.Answer as graph
use Rattle.reading_order.specs.declared.OrderFault.{OrderFault}
use Rattle.reading_order.specs.Relation.{sender_rows, live_blocks}
use Rattle.reading_order.specs.Reply.{reply_of, reply, estimate_after_order, work_after_order, positions_after, ReplyMeans}

-- first words of blocks: words of the table, no more than a set has digits
pub record Firsts (l : Layout) (bs : List ℕ) : Type 0 where
  pub few : length bs ≤ 64
  pub inside : (i : ℕ) → i < length bs → get_or bs i 0 < l.size

-- the positions of the blocks are arranged by the words of an estimate
pub record ArrangedBy (c : Code) (est old new : List ℕ) (r : Option Arrangement) : Type 0 where
  pub says : r ≡ graph.answer (sender_rows c est) (live_blocks c est) (length old)
  pub writes : new ≡ starting_with (written (sender_rows c est) (live_blocks c est) r) old
  pub means : Means (sender_rows c est) (live_blocks c est) r new

-- a call
pub record OrderedIn (ws : List ℕ) (ρ n : ℕ) (est work positions est' work' positions' : List ℕ) (r : Result Arrangement OrderFault) : Type 0 where
  pub replies : reply_of r ≡ reply ws ρ n (length est) (length work) (length positions)
  pub estimates : est' ≡ estimate_after_order ws ρ n est work positions
  pub works : work' ≡ work_after_order ws ρ est work positions
  pub writes : positions' ≡ positions_after ws ρ n est work positions
  pub means : ReplyMeans ws ρ (reply_of r) positions'
