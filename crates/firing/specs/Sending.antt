-- What a send is handed: a send at a term of an accepted table, and the permissions and the place of its block, as the links say.
use Rattle.std.specs.Prelude.{ℕ, ◌+◌, ◌^◌, ◌<◌, ◌≡◌, List}
use Rattle.permset.specs.Sets.{width}
use Rattle.table.specs.declared.Item.TheVariants as items
use Rattle.table.specs.declared.Term.{Term}
use Rattle.table.specs.Item.{item_at, item_perms}
use Rattle.table.specs.Links.{link_at}
use Rattle.rows.specs.declared.layout.Layout.{Layout}
use Rattle.clauses.specs.declared.Effect.{Effect}
use Rattle.queries.specs.Ready.{Ready}
use Rattle.firing.specs.declared.sends.Sender.{Sender}

pub record Sending (ws : List ℕ) (l : Layout) (x y z : ℕ) : Type 0 where
  pub word : x + 1 < l.size
  pub message : y < l.size
  pub required : z < 2 ^ width
  pub term : Term
  pub there : item_at ws x ≡ items.Term term

pub record Sends (ws masks : List ℕ) (l : Layout) (e : Effect) (own : Sender) : Type 0 where
  pub links : List ℕ
  pub ready : Ready ws links masks l
  pub sending : Sending ws l e.x e.y e.z
  pub sender : own.perms.bits ≡ item_perms (item_at ws (link_at links e.x).home)
  pub block : own.home ≡ (link_at links e.x).home
