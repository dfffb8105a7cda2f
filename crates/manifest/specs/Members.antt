-- The top members of a manifest: repeated keys, the value of a key, and what a list of strings says (document 02, wish 4).
-- A member or a value is given by the bytes that start with it.
use Rattle.std.specs.Prelude.{ℕ, ◌+◌, Bool, true, false, ◌||◌, List, [], ◌∷◌, ◌++◌, eqb}
use Rattle.permset.specs.Sets.{union}
use Rattle.json_text.specs.Bytes.{head, tail, space, Rest, nothing, rest, starts}
use Rattle.json_text.specs.Strings.{units}
use Rattle.json_text.specs.Units.{matches}
use Rattle.json_text.specs.Values.{name, item, value, parts}
use Rattle.manifest.specs.Strings.{set_of}

-- how deep arrays and objects may nest, the top object being the first
abbrev pub deepest : ℕ
deepest = 16

-- the members of the top object
unfoldable pub members : List ℕ → List (List ℕ)
unfolding tail space parts
members text = parts (value 15) true (tail (space text))

-- the members from the start of one on, and the elements of a list that is read
abbrev pub members_from : List ℕ → List (List ℕ)
members_from bs = starts (item (value 15) true) bs

abbrev pub elements_from : List ℕ → List (List ℕ)
elements_from bs = starts (item (value 14) false) bs

-- the units of a member's key, behind its first quotation mark
abbrev pub key_of : List ℕ → List ℕ
key_of m = units (tail m)

-- some member has this key
unfoldable pub has : List (List ℕ) → List ℕ → Bool
unfolding tail matches
has [] key = false
has (m ∷ ms) key = matches true (key_of m) key || has ms key

-- a test that is made only where a mark is there
unfoldable pub unless_zero : ℕ → Bool → Bool
unless_zero mark t = elim (eqb mark 0) [ true ↦ false | false ↦ t ]

-- some member has a key of one before it
unfoldable pub repeated : (before members : List (List ℕ)) → Bool
unfolding tail has
repeated before [] = false
repeated before (m ∷ ms) = has before (key_of m) || repeated (before ++ m ∷ []) ms

-- the value of the first member with this key
unfoldable pub find : List ℕ → List (List ℕ) → Rest
unfolding tail matches name
find key [] = nothing
find key (m ∷ ms) = elim (matches true key (key_of m)) [ true ↦ name true m | false ↦ find key ms ]

-- the set of some strings, and how many of them set nothing; or that not all are strings
pub data Count : Type 0 where
  not_strings : Count
  strings : (set others : ℕ) → Count

unfoldable pub counted : (by_name by_host : Bool) → List (List ℕ) → Count → Count
unfolding head tail set_of union
counted n h [] c = c
counted n h (e ∷ es) not_strings = not_strings
counted n h (e ∷ es) (strings set others) =
    elim (eqb (head e) 0x22) [
      | false ↦ not_strings
      | true ↦
          elim (eqb (set_of n h (units (tail e))) 0) [
            | true ↦ counted n h es (strings set (others + 1))
            | false ↦ counted n h es (strings (union set (set_of n h (units (tail e)))) others)
          ]
    ]

-- a list that is read: an array of strings; a missing one is empty. Its elements stand two deep.
unfoldable pub listed : (by_name by_host : Bool) → Rest → Count → Count
unfolding head tail parts counted
listed n h nothing c = c
listed n h (rest bs) c = elim (eqb (head bs) 0x5b) [ true ↦ counted n h (parts (value 14) false (tail bs)) c | false ↦ not_strings ]
