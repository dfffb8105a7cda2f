-- The links of a table: for each word the end of its term, its binder and its block, in one word of a lent slice. They are made in
-- two passes over the words: the ends from the last word to the first, then the binders and blocks from the first to the last.
use Rattle.std.specs.Prelude.{ℕ, zero, suc, ◌+◌, ◌*◌, ◌/◌, ◌%◌, ◌^◌, ◌≤◌, ◌≡◌, Bool, true, false, ◌&&◌, List, [], ◌∷◌, eqb, leb, length, get_or, set}
use Rattle.table.specs.declared.Link.{Link}
use Rattle.table.specs.Words.{kind, argument, size, parts, arity}

-- a link in one word: 11 bits for the end, 10 for the binder, 10 for the block
unfoldable pub pack : Link → ℕ
pack l = l.end % 2 ^ 11 + l.binder % 2 ^ 10 * 2 ^ 11 + l.home % 2 ^ 10 * 2 ^ 21

unfoldable pub unpack : ℕ → Link
unpack x = record { end = x % 2 ^ 11; binder = x / 2 ^ 11 % 2 ^ 10; home = x / 2 ^ 21 % 2 ^ 10 }

unfoldable pub link_at : List ℕ → ℕ → Link
link_at l p = unpack (get_or l p 0)

-- f, n times over
unfoldable pub iterate : (ℕ → ℕ) → ℕ → ℕ → ℕ
iterate f zero p = p
iterate f (suc n) p = iterate f n (f p)

-- ---- the ends

-- past n terms, from the place p on
abbrev pub hops : List ℕ → ℕ → ℕ → ℕ
hops l n p = iterate (λ q. (link_at l q).end) n p

-- the ends of the first n words, where those after them have theirs
unfoldable pub ends : List ℕ → ℕ → List ℕ → List ℕ
ends ws zero l = l
ends ws (suc n) l = ends ws n (set l n (pack (record { end = hops l (arity (get_or ws n 0)) (suc n); binder = 0; home = 0 })))

-- ---- the binders and the blocks

unfoldable pub with_binder : List ℕ → ℕ → ℕ → List ℕ
with_binder l p b = set l p (pack (record { end = (link_at l p).end; binder = b; home = (link_at l p).home }))

unfoldable pub with_home : List ℕ → ℕ → ℕ → List ℕ
with_home l p h = set l p (pack (record { end = (link_at l p).end; binder = (link_at l p).binder; home = h }))

-- the binder that is n binders out from b
abbrev pub outward : List ℕ → ℕ → ℕ → ℕ
outward l n b = iterate (λ q. (link_at l q).binder) n b

-- p or b, for a part that has p as its innermost binder or not
abbrev pub innermost : Bool → ℕ → ℕ → ℕ
innermost true p b = p
innermost false p b = b

-- the binder of each part of the term at p, whose own binder is b; the first of them stands at q
unfoldable pub bind_parts : List ℕ → ℕ → ℕ → List Bool → ℕ → List ℕ
bind_parts l p b [] q = l
bind_parts l p b (m ∷ ms) q = bind_parts (with_binder l q (innermost m p b)) p b ms (link_at l q).end

-- the block of the word w at p, where the word before it is in the block h
unfoldable pub block_at : ℕ → ℕ → ℕ → ℕ
block_at w p h = elim (eqb (kind w) 2) [ true ↦ p | false ↦ h ]

-- what the word w at p says: a block binds its message in its body, a variable counts to its binder, and a term binds its parts
unfoldable pub bind_word : ℕ → ℕ → List ℕ → List ℕ
bind_word w p l =
    elim (eqb (kind w) 2) [
      | true ↦ with_binder l (p + 3) p
      | false ↦
          elim (eqb (kind w) 20) [
            | true ↦ with_binder l p (outward l (argument w) (link_at l p).binder)
            | false ↦ bind_parts l p (link_at l p).binder (parts w) (suc p)
          ]
    ]

-- the words from p on, n of them, where the word before is in the block h
unfoldable pub binders : List ℕ → ℕ → ℕ → ℕ → List ℕ → List ℕ
binders ws zero p h l = l
binders ws (suc n) p h l =
    let w = get_or ws p 0 in
    let h' = block_at w p h in
    binders ws n (suc p) h' (with_home (bind_word w p l) p h')

-- the slice with the links of the table in its first words; as it was where it is too short or the table too long
unfoldable pub linked : List ℕ → List ℕ → List ℕ
linked ws l =
    elim (leb (length ws) (length l) && leb (length ws) size) [
      | true ↦ binders ws (length ws) 0 0 (ends ws (length ws) l)
      | false ↦ l
    ]

-- the links of the words
pub record LinksOf (ws links : List ℕ) : Type 0 where
  pub slice : List ℕ
  pub room : length ws ≤ length slice
  pub made : links ≡ linked ws slice
