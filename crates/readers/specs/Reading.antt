-- What the leak is read from: an accepted table with its links and layout, and an estimate of the right length.
use Rattle.std.specs.Prelude.{◌≡◌, Bool, false, List, ℕ, length}
use Rattle.permset.specs.Sets.{within}
use Rattle.table.specs.declared.Item.{Item}
use Rattle.table.specs.declared.Item.TheVariants as items
use Rattle.table.specs.Scan.{accepted, reading}
use Rattle.table.specs.Code.{code}
use Rattle.table.specs.Links.{LinksOf}
use Rattle.calculus.specs.Layout.{estimate_words}
use Rattle.rows.specs.declared.layout.Layout.{Layout}
use Rattle.rows.specs.Laid.{LaidOut}

-- the guard of a block is within a set of permissions
unfoldable pub item_guarded : Item → ℕ → Bool
item_guarded items.Gap ρ = false
item_guarded (items.Block h) ρ = within h.guard.bits ρ
item_guarded (items.Term t) ρ = false

pub record Readable (ws links est : List ℕ) (l : Layout) : Type 0 where
  pub readable : reading ws ≡ accepted
  pub laid : LaidOut (code ws) l
  pub linked : LinksOf ws links
  pub long : length est ≡ estimate_words (code ws)
