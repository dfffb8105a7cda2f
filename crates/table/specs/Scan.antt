-- The reading of a table as one scan over its words, with a stack of what has still to come (document 01, "The table" and
-- "Refused, by who caused it").
use Rattle.std.specs.Prelude.{ℕ, zero, suc, List, [], ◌∷◌, ◌++◌, map, Bool, true, false, not, ◌&&◌, ◌||◌, length, get_or, replicate, eqb, leb, ltb}
use Rattle.table.specs.Words.{kind, argument, word_of, names_of, size, depths, parts, limit}

-- What the next word has to be: word 0 of a table of `size` words, a block's name, its permission set (with the name before it),
-- its guard, or a term at a depth, in the block whose first word is `home`, under the binders at these places, innermost first.
pub data Task : Type 0 where
  head : (size : ℕ) → Task
  name : Task
  perms : (name : ℕ) → Task
  guard : Task
  term : (depth home : ℕ) (scope : List ℕ) → Task

pub data Outcome : Type 0 where
  accepted : Outcome
  refused : (number place : ℕ) → Outcome

-- the number of the first test that holds, and 0 where none does
unfoldable pub first_of : List (Bool × ℕ) → ℕ
first_of [] = 0
first_of (t ∷ ts) = elim t.0 [ true ↦ t.1 | false ↦ first_of ts ]

-- n is in the list
unfoldable pub has : List ℕ → ℕ → Bool
has [] n = false
has (k ∷ ks) n = eqb k n || has ks n

-- a handler's key: its name together with its permissions
abbrev pub key : ℕ → ℕ → ℕ
key n s = word_of n s

module _ (names : ℕ) where
  -- the tests of a word where a task waits for it, with their numbers in ascending order; `keys` are the keys of the blocks before
  unfoldable pub tests : List ℕ → ℕ → Task → List (Bool × ℕ)
  tests keys w (head n) = (not (eqb (kind w) 1 || eqb (kind w) 5), 1) ∷ (ltb size n, 2) ∷ (ltb names (argument w), 3) ∷ []
  tests keys w name = (not (eqb (kind w) 2), 4) ∷ (leb names (argument w), 5) ∷ []
  tests keys w (perms n) = (not (eqb (kind w) 3), 4) ∷ (has keys (key n (argument w)), 6) ∷ []
  tests keys w guard = (not (eqb (kind w) 4), 4) ∷ []
  tests keys w (term d h s) =
      (ltb (kind w) 16, 7)
      ∷ (ltb 36 (kind w), 7)
      ∷ (leb (limit w) (argument w), 9)
      ∷ (eqb (kind w) 19 && leb names (argument w), 9)
      ∷ (eqb (kind w) 20 && leb (length s) (argument w), 10)
      ∷ (ltb depths d, 11)
      ∷ []

  -- the number that refuses a word, the lowest first, and 0 where it may stand
  unfoldable pub fault : List ℕ → ℕ → Task → ℕ
  fault keys w t = first_of (tests keys w t)

-- the number where no word is left
unfoldable pub missing : Task → ℕ
missing (head n) = 1
missing name = 4
missing (perms n) = 4
missing guard = 4
missing (term d h s) = 8

-- the keys after a word
unfoldable pub keep : List ℕ → ℕ → Task → List ℕ
keep keys w (head n) = keys
keep keys w name = keys
keep keys w (perms n) = key n (argument w) ∷ keys
keep keys w guard = keys
keep keys w (term d h s) = keys

-- the scope of a part: with `at` as its innermost binder or without
unfoldable pub under : Bool → ℕ → List ℕ → List ℕ
under true at s = at ∷ s
under false at s = s

-- the tasks that the word w at a place leaves where it stands for a task
unfoldable pub next : ℕ → ℕ → Task → List Task
next at w (head n) = replicate (argument w) name
next at w name = perms (argument w) ∷ guard ∷ term 1 at (at ∷ []) ∷ []
next at w (perms n) = []
next at w guard = []
next at w (term d h s) = map (λ b. term (suc d) h (under b at s)) (parts w)

module _ (names : ℕ) where
  -- the words from the place `at` on, under a stack of tasks
  unfoldable pub scan : List ℕ → List ℕ → ℕ → List Task → Outcome
  scan [] keys at [] = accepted
  scan [] keys at (t ∷ ts) = refused (missing t) at
  scan (w ∷ ws) keys at [] = refused 12 at
  scan (w ∷ ws) keys at (t ∷ ts) =
      elim (fault names keys w t) [
        | zero ↦ scan ws (keep keys w t) (suc at) (next at w t ++ ts)
        | suc n ↦ refused (suc n) at
      ]

-- the names of a table, by its word 0
abbrev pub names_at : List ℕ → ℕ
names_at ws = names_of (get_or ws 0 0)

-- a table
unfoldable pub reading : List ℕ → Outcome
reading ws = scan (names_at ws) ws [] 0 (head (length ws) ∷ [])

-- a narrow table, where a wide one is none
unfoldable pub narrow_reading : List ℕ → Outcome
unfolding reading
narrow_reading ws = elim (eqb (kind (get_or ws 0 0)) 5) [ true ↦ refused 1 0 | false ↦ reading ws ]
