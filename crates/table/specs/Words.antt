-- The words of a table: kind, argument, and the term that a word is (document 01, "The table").
use Rattle.std.specs.Prelude.{ℕ, ◌+◌, ◌-◌, ◌*◌, ◌/◌, ◌%◌, ◌^◌, List, [], ◌∷◌, Bool, true, false, length, get_or, eqb}
use Rattle.table.specs.declared.Constant.{Constant}
use Rattle.table.specs.declared.Constant.TheVariants as constants
use Rattle.table.specs.declared.Operation.{Operation}
use Rattle.table.specs.declared.Operation.TheVariants as operations
use Rattle.table.specs.declared.Term.{Term}
use Rattle.table.specs.declared.Term.TheVariants as terms

-- the top 8 bits
abbrev pub kind : ℕ → ℕ
kind w = w / 2 ^ 24

-- the low 24 bits
abbrev pub argument : ℕ → ℕ
argument w = w % 2 ^ 24

-- the word of a kind and an argument
abbrev pub word_of : ℕ → ℕ → ℕ
word_of k a = k * 2 ^ 24 + a

-- Kind 1 starts a narrow table, kind 5 a wide one: how many names it may have, and as many handlers.
abbrev pub narrow : ℕ
narrow = 32

abbrev pub wide : ℕ
wide = 64

unfoldable pub names_of : ℕ → ℕ
names_of w = elim (eqb (kind w) 5) [ true ↦ wide | false ↦ narrow ]

-- how many literals a table may have, its words, and the depth of a body
abbrev pub literals : ℕ
literals = 23

abbrev pub size : ℕ
size = 1024

abbrev pub depths : ℕ
depths = 64

-- the first kind of a term, and the number of kinds
abbrev pub first_kind : ℕ
first_kind = 16

-- Of kinds 16 to 36 in order: whether each part has the term itself as its innermost binder. Functions bind their argument in
-- their body, let its first part inside its second.
unfoldable pub parts_by_kind : List (List Bool)
parts_by_kind =
    []  -- 16 constant
    ∷ []  -- 17 whole number
    ∷ []  -- 18 string literal
    ∷ []  -- 19 handler name
    ∷ []  -- 20 variable
    ∷ (true ∷ [])  -- 21 function
    ∷ (false ∷ false ∷ [])  -- 22 apply
    ∷ (false ∷ true ∷ [])  -- 23 let
    ∷ (false ∷ false ∷ [])  -- 24 sequence
    ∷ (false ∷ false ∷ false ∷ [])  -- 25 if
    ∷ (false ∷ false ∷ [])  -- 26 while
    ∷ (false ∷ false ∷ [])  -- 27 operation
    ∷ []  -- 28 empty record
    ∷ (false ∷ false ∷ [])  -- 29 get
    ∷ (false ∷ false ∷ false ∷ [])  -- 30 set
    ∷ (false ∷ false ∷ [])  -- 31 delete
    ∷ (false ∷ [])  -- 32 new cell
    ∷ (false ∷ [])  -- 33 read cell
    ∷ (false ∷ false ∷ [])  -- 34 assign
    ∷ (false ∷ false ∷ [])  -- 35 send
    ∷ []  -- 36 exercise
    ∷ []

-- Of kinds 16 to 36 in order: the first argument out of range. The number of names limits a name, and the number of its binders a variable.
unfoldable pub limits_by_kind : List ℕ
limits_by_kind =
    4  -- 16 constant
    ∷ 2 ^ 24  -- 17 whole number
    ∷ literals  -- 18 string literal
    ∷ 2 ^ 24  -- 19 handler name
    ∷ 2 ^ 24  -- 20 variable
    ∷ 1  -- 21 function
    ∷ 1  -- 22 apply
    ∷ 1  -- 23 let
    ∷ 1  -- 24 sequence
    ∷ 1  -- 25 if
    ∷ 1  -- 26 while
    ∷ 3  -- 27 operation
    ∷ 1  -- 28 empty record
    ∷ 1  -- 29 get
    ∷ 1  -- 30 set
    ∷ 1  -- 31 delete
    ∷ 1  -- 32 new cell
    ∷ 1  -- 33 read cell
    ∷ 1  -- 34 assign
    ∷ 2 ^ 24  -- 35 send
    ∷ 2 ^ 24  -- 36 exercise
    ∷ []

-- the parts of a term, by its word
unfoldable pub parts : ℕ → List Bool
parts w = get_or parts_by_kind (kind w - first_kind) []

-- how many parts a term has
unfoldable pub arity : ℕ → ℕ
arity w = length (parts w)

-- the first argument out of range, by the word
unfoldable pub limit : ℕ → ℕ
limit w = get_or limits_by_kind (kind w - first_kind) 0

-- The word of a term: document 01's kind and argument for each case.
unfoldable pub constant_number : Constant → ℕ
constant_number constants.Undefined = 0
constant_number constants.Unit = 1
constant_number constants.True = 2
constant_number constants.False = 3

unfoldable pub operation_number : Operation → ℕ
operation_number operations.Add = 0
operation_number operations.Less = 1
operation_number operations.Equal = 2

unfoldable pub word : Term → ℕ
word (terms.Constant c) = word_of 16 (constant_number c)
word (terms.Number n) = word_of 17 n
word (terms.Literal n) = word_of 18 n
word (terms.Name n) = word_of 19 n
word (terms.Variable n) = word_of 20 n
word terms.Function = word_of 21 0
word terms.Apply = word_of 22 0
word terms.Let = word_of 23 0
word terms.Sequence = word_of 24 0
word terms.If = word_of 25 0
word terms.While = word_of 26 0
word (terms.Operation o) = word_of 27 (operation_number o)
word terms.Record = word_of 28 0
word terms.Get = word_of 29 0
word terms.Set = word_of 30 0
word terms.Delete = word_of 31 0
word terms.Cell = word_of 32 0
word terms.Read = word_of 33 0
word terms.Assign = word_of 34 0
word (terms.Send s) = word_of 35 s.bits
word (terms.Exercise s) = word_of 36 s.bits

-- The term of a word: `word` read backwards, where kind and argument are in range.
unfoldable pub constant_of : ℕ → Constant
constant_of a = get_or (constants.Undefined ∷ constants.Unit ∷ constants.True ∷ constants.False ∷ []) a constants.Undefined

unfoldable pub operation_of : ℕ → Operation
operation_of a = get_or (operations.Add ∷ operations.Less ∷ operations.Equal ∷ []) a operations.Add

unfoldable pub terms_by_kind : ℕ → List Term
terms_by_kind a =
    terms.Constant (constant_of a)
    ∷ terms.Number a
    ∷ terms.Literal a
    ∷ terms.Name a
    ∷ terms.Variable a
    ∷ terms.Function
    ∷ terms.Apply
    ∷ terms.Let
    ∷ terms.Sequence
    ∷ terms.If
    ∷ terms.While
    ∷ terms.Operation (operation_of a)
    ∷ terms.Record
    ∷ terms.Get
    ∷ terms.Set
    ∷ terms.Delete
    ∷ terms.Cell
    ∷ terms.Read
    ∷ terms.Assign
    ∷ terms.Send (record { bits = a })
    ∷ terms.Exercise (record { bits = a })
    ∷ []

unfoldable pub term_of : ℕ → Term
term_of w = get_or (terms_by_kind (argument w)) (kind w - first_kind) terms.Record
