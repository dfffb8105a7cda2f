-- What stands at a word of an accepted table, by its kind.
use Rattle.std.specs.Prelude.{ℕ, ◌+◌, true, false, List, eqb, ltb, get_or}
use Rattle.permset.specs.declared.PermSet.{PermSet}
use Rattle.table.specs.declared.Handler.{Handler}
use Rattle.table.specs.declared.Item.{Item}
use Rattle.table.specs.declared.Item.TheVariants as items
use Rattle.table.specs.Words.{kind, argument, term_of}

abbrev pub set_of : ℕ → PermSet
set_of w = record { bits = argument w }

-- the block whose first word is at p
unfoldable pub handler_at : List ℕ → ℕ → Handler
handler_at ws p =
    record { name = argument (get_or ws p 0); perms = set_of (get_or ws (p + 1) 0); guard = set_of (get_or ws (p + 2) 0) }

unfoldable pub item_at : List ℕ → ℕ → Item
item_at ws p =
    elim (eqb (kind (get_or ws p 0)) 2) [
      | true ↦ items.Block (handler_at ws p)
      | false ↦ elim (ltb (kind (get_or ws p 0)) 16) [ true ↦ items.Gap | false ↦ items.Term (term_of (get_or ws p 0)) ]
    ]

-- the permissions of a block
unfoldable pub item_perms : Item → ℕ
item_perms items.Gap = 0
item_perms (items.Block h) = h.perms.bits
item_perms (items.Term t) = 0
