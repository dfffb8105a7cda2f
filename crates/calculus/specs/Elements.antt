-- The elements of value sets and held sets (document 01, "Estimate"), what a word makes, and what the operations give on elements.
-- Names are counted by the code, so that "all 64" is `plain c`, and 64+i is `made c i`.
use Rattle.std.specs.Prelude.{ℕ, ◌+◌, ◌-◌, ◌*◌, ◌^◌, List, [], ◌∷◌, Bool, true, false, not, ◌&&◌, ◌||◌, get_or, eqb, leb, ltb}
use Rattle.table.specs.declared.Constant.{Constant}
use Rattle.table.specs.declared.Operation.{Operation}
use Rattle.table.specs.declared.Operation.TheVariants as operations
use Rattle.table.specs.Words.{constant_number}
use Rattle.table.specs.Code.{Code, Node, Leaf, One, gap, block, leaf, one, two, bind, while, branch, update}
use Rattle.table.specs.Code.{constant, number, literal, named, variable, function, empty, exercise, cell, read}

-- 0 undefined, 1 unit, 2 true, 3 false
unfoldable pub constant_element : Constant → ℕ
constant_element k = constant_number k

abbrev pub undefined : ℕ
undefined = 0

abbrev pub unit : ℕ
unit = 1

abbrev pub truth : ℕ
truth = 2

abbrev pub falsehood : ℕ
falsehood = 3

-- the signs of numbers
abbrev pub negative : ℕ
negative = 4

abbrev pub nought : ℕ
nought = 5

abbrev pub positive : ℕ
positive = 6

abbrev pub opponent_record : ℕ
opponent_record = 7

-- any string that is no literal
abbrev pub other_string : ℕ
other_string = 8

abbrev pub literal_element : ℕ → ℕ
literal_element n = 9 + n

abbrev pub name_element : ℕ → ℕ
name_element n = 32 + n

-- how many elements stand for plain data: "all 64" are those below
abbrev pub plain : Code → ℕ
plain c = 32 + c.names

-- what word i makes
abbrev pub made : Code → ℕ → ℕ
made c i = plain c + i

-- how many elements there are
abbrev pub elements : Code → ℕ
elements c = plain c + c.size

-- the sign of a 24-bit number in two's complement
unfoldable pub sign : ℕ → ℕ
sign n = elim (eqb n 0) [ true ↦ nought | false ↦ elim (ltb n (2 ^ 23)) [ true ↦ positive | false ↦ negative ] ]

-- strings are 8 to 31
unfoldable pub is_string : ℕ → Bool
is_string v = leb other_string v && ltb v (name_element 0)

-- ---- what a word makes

-- kind 21 makes a function, kinds 28 and 30 a record, kind 32 a cell
pub data Making : Type 0 where
  nothing a_function a_record a_cell : Making

unfoldable pub leaf_makes : Leaf → Making
leaf_makes (constant k) = nothing
leaf_makes (number n) = nothing
leaf_makes (literal n) = nothing
leaf_makes (named n) = nothing
leaf_makes (variable n) = nothing
leaf_makes function = a_function
leaf_makes empty = a_record
leaf_makes (exercise r) = nothing

unfoldable pub one_makes : One → Making
one_makes cell = a_cell
one_makes read = nothing

unfoldable pub makes : Node → Making
makes gap = nothing
makes (block n s g) = nothing
makes (leaf l) = leaf_makes l
makes (one o a) = one_makes o
makes (two t a b) = nothing
makes (bind a b) = nothing
makes (while a b) = nothing
makes (branch a b d) = nothing
makes (update a b d) = a_record

unfoldable pub is_function : Making → Bool
is_function nothing = false
is_function a_function = true
is_function a_record = false
is_function a_cell = false

unfoldable pub is_record : Making → Bool
is_record nothing = false
is_record a_function = false
is_record a_record = true
is_record a_cell = false

unfoldable pub is_cell : Making → Bool
is_cell nothing = false
is_cell a_function = false
is_cell a_record = false
is_cell a_cell = true

-- what element v, one of those past the plain ones, was made as
unfoldable pub making : Code → ℕ → Making
making c v = makes (c.node (v - plain c))

-- the elements that a message may hold: all but functions and cells
unfoldable pub sendable : Code → ℕ → Bool
sendable c v = ltb v (plain c) || not (is_function (making c v) || is_cell (making c v))

-- the opponent's record, or a record that a word makes
unfoldable pub any_record : Code → ℕ → Bool
any_record c v = eqb v opponent_record || leb (plain c) v && is_record (making c v)

-- ---- the operations

unfoldable pub is_sign : ℕ → Bool
is_sign v = leb negative v && leb v positive

-- the place of two signs in a table: negative, zero and positive in rows and columns
unfoldable pub sign_place : ℕ → ℕ → ℕ
sign_place x y = 3 * (x - negative) + (y - negative)

-- add: equal signs stay, zero is neutral, opposite signs give all three
unfoldable pub sum_signs : List (List ℕ)
sum_signs =
    -- negative with negative, zero, positive
    (negative ∷ []) ∷ (negative ∷ []) ∷ (negative ∷ nought ∷ positive ∷ [])
    -- zero with each
    ∷ (negative ∷ []) ∷ (nought ∷ []) ∷ (positive ∷ [])
    -- positive with each
    ∷ (negative ∷ nought ∷ positive ∷ []) ∷ (positive ∷ []) ∷ (positive ∷ []) ∷ []

-- less: negative, zero, positive in that order; equal non-zero signs give both truths, zero with zero false
unfoldable pub less_signs : List (List ℕ)
less_signs =
    -- negative with negative, zero, positive
    (truth ∷ falsehood ∷ []) ∷ (truth ∷ []) ∷ (truth ∷ [])
    -- zero with each
    ∷ (falsehood ∷ []) ∷ (falsehood ∷ []) ∷ (truth ∷ [])
    -- positive with each
    ∷ (falsehood ∷ []) ∷ (falsehood ∷ []) ∷ (truth ∷ falsehood ∷ []) ∷ []

-- the entry of two elements in a table of signs, and nothing where one is no sign
unfoldable pub by_signs : List (List ℕ) → ℕ → ℕ → List ℕ
by_signs table x y = elim (is_sign x && is_sign y) [ true ↦ get_or table (sign_place x y) [] | false ↦ [] ]

-- `equal` compares plain data, the opponent's record aside
unfoldable pub comparable : Code → ℕ → Bool
comparable c v = ltb v (plain c) && not (eqb v opponent_record)

-- elements that stand for more than one value
unfoldable pub is_many : ℕ → Bool
is_many v = eqb v negative || eqb v positive || eqb v other_string

-- equal: different gives false; same gives true, and false too for 4, 6 and 8
unfoldable pub equal_results : Code → ℕ → ℕ → List ℕ
equal_results c x y =
    elim (comparable c x && comparable c y) [
      | true ↦ elim (eqb x y) [ true ↦ elim (is_many x) [ true ↦ truth ∷ falsehood ∷ [] | false ↦ truth ∷ [] ] | false ↦ falsehood ∷ [] ]
      | false ↦ []
    ]

-- the elements that an operation may give on two elements
unfoldable pub results : Code → Operation → ℕ → ℕ → List ℕ
results c operations.Add x y = by_signs sum_signs x y
results c operations.Less x y = by_signs less_signs x y
results c operations.Equal x y = equal_results c x y
