-- What the code is made of: from where up to where a block stands, what one block of a table gives to the joined system, and words
-- that are written to a slice.
use Rattle.std.specs.Prelude.{ℕ, suc, ◌+◌, ◌-◌, ◌≤◌, ◌≡◌, Bool, true, false, Option, Some, None, length, take, drop}
use mathlib.Core.List.{List, [], ◌∷◌, flatten}
use Rattle.std.proofs.Math.Seq.{paste}
use Rattle.blocks.specs.Blocks.{name_of, perms_of}
use Rattle.overlay.specs.declared.join.Put.{Put}
use Rattle.overlay.specs.declared.join.Wanted.{Wanted}
use Rattle.overlay.specs.declared.join.Wanted.TheVariants as wants
use Rattle.overlay.specs.Lookup.{Sought, nothing, found, seek}

-- the words from a place up to another
abbrev pub part : (start end : ℕ) → List ℕ → List ℕ
part a e ws = take (e - a) (drop a ws)

unfoldable pub span_of : Sought → Option (ℕ × ℕ)
span_of nothing = None
span_of (found a b) = Some (a, a + length b)

-- only new blocks are wanted
abbrev pub is_new : Wanted → Bool
is_new wants.Each = false
is_new wants.New = true

-- the words that a block gives: where the other table has its key those of the other's block, or none if only new blocks are
-- wanted; otherwise its own
unfoldable pub given : (new : Bool) (other : List (List ℕ)) → List ℕ → List ℕ
given new os b =
    elim (seek (name_of b) (perms_of b) 1 os) [ nothing ↦ b | found a o ↦ elim new [ true ↦ [] | false ↦ o ] ]

-- how many lists have words
unfoldable pub some : List (List ℕ) → ℕ
some [] = 0
some ([] ∷ ls) = some ls
some ((w ∷ ws) ∷ ls) = suc (some ls)

-- a list of words written to a slice from a place on, as far as it has room, and the place after it
pub record AppendedTo (at : ℕ) (words before after : List ℕ) (end : ℕ) : Type 0 where
  pub ends : end ≡ at + length words
  pub written : end ≤ length before → after ≡ paste before at words (length words)

-- the same of what a table's blocks give, one list after the other, and how many of them have words
pub record PutTo (at : ℕ) (parts : List (List ℕ)) (before after : List ℕ) (r : Put) : Type 0 where
  pub appended : AppendedTo at (flatten parts) before after r.end
  pub counts : r.count ≡ some parts
  pub near : r.end ≤ at + 32768
  pub few : r.count ≤ 32
