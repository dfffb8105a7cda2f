-- The block of a term, as the code reads it: its permissions, and where it starts.
use Prim.Native.Nat.{ℕ, ◌<◌}
use mathlib.Core.Path.{◌≡◌, sym, ◌∙◌}
use native.Mathlib.Omega.{arith}
use mathlib.Core.List.{List}
use Rattle.table.specs.declared.Item.TheVariants as items
use Rattle.table.specs.declared.Term.{Term}
use Rattle.table.specs.Item.{item_at, item_perms}
use Rattle.table.specs.Links.{link_at}
use Rattle.table.specs.Code.{code}
use Rattle.table.proofs.Linked.{linked}
use Rattle.table.proofs.Nodes.{home-link, home-block}
use Rattle.calculus.specs.Rules.{permissions}
use Rattle.rows.specs.declared.layout.Layout.{Layout}
use Rattle.calculus.proofs.Permissions.{permissions-are}
use Rattle.queries.specs.Ready.{Ready}

pub sender : {ws links masks : List ℕ} {l : Layout} (y : Ready ws links masks l) (x : ℕ) (t : Term) → item_at ws x ≡ items.Term t → (own : ℕ)
    → own ≡ item_perms (item_at ws (link_at links x).home) → own ≡ permissions (code ws) x
sender {ws} y x t h own e = rw y.from at e ∙ permissions-are ws y.readable y.slice y.room x t h

module _ {ws links masks : List ℕ} {l : Layout} (y : Ready ws links masks l) (x : ℕ) (t : Term) (h : item_at ws x ≡ items.Term t) (home : ℕ)
    (e : home ≡ (link_at links x).home) where
  pub sender-home : home ≡ (code ws).home x
  sender-home = rw y.from at e ∙ sym (home-link ws y.readable y.slice y.room x t h)

  pub sender-inside : home < l.size
  sender-inside =
      omega (arith, sender-home, ((linked ws y.readable).listed ((code ws).home x) (home-block ws y.readable y.slice y.room x t h)).0, y.laid.size)
