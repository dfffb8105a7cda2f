-- The values of the machine: constants, unbounded whole numbers, strings, names, functions, records and cells, and what the
-- operations of document 01 make of them.
use Rattle.std.specs.Prelude.{ℕ, zero, suc, ◌^◌, Bool, true, false, ◌&&◌, eqb, ltb, ℤ, pos, negsuc, ◌+ℤ◌}
use Rattle.std.proofs.Math.Option.{Option, none, some}
use Rattle.std.proofs.Math.IntN.{sub_ℕ}
use Rattle.std.specs.Int.Signed.{lt_z}
use Rattle.table.specs.declared.Constant.{Constant}
use Rattle.table.specs.declared.Constant.TheVariants as constants
use Rattle.table.specs.declared.Operation.{Operation}
use Rattle.table.specs.declared.Operation.TheVariants as operations
use Rattle.table.specs.Words.{constant_number}

-- The values that `equal` compares. A text below `literals` is that string literal, any other text is another string.
pub data Atom : Type 0 where
  constant : Constant → Atom
  number : ℤ → Atom
  text named : ℕ → Atom

-- A function is the word that made it with what its binders are bound to, innermost first. A cell is an index in the cells of its
-- instance.
mutual
  pub data Value : Type 0 where
    atom : Atom → Value
    function : (at : ℕ) → Environment → Value
    fields : Fields → Value
    cell : (index : ℕ) → Value

  pub data Environment : Type 0 where
    closed : Environment
    bound : Value → Environment → Environment

  pub data Fields : Type 0 where
    empty : Fields
    field : (key : ℕ) → Value → Fields → Fields

abbrev pub undefined : Value
undefined = atom (constant constants.Undefined)

abbrev pub unit : Value
unit = atom (constant constants.Unit)

abbrev pub truth : Bool → Value
truth true = atom (constant constants.True)
truth false = atom (constant constants.False)

-- the whole number of an argument: 24-bit two's complement
unfoldable pub whole : ℕ → ℤ
whole n = elim (ltb n (2 ^ 23)) [ true ↦ pos n | false ↦ sub_ℕ n (2 ^ 24) ]

-- what the variable n is bound to, counted from the innermost binder
unfoldable pub look : Environment → ℕ → Option Value
look closed n = none
look (bound v vs) zero = some v
look (bound v vs) (suc n) = look vs n

-- ---- records. Where a key is there twice the first one counts

-- a missing field reads undefined
unfoldable pub get_field : Fields → ℕ → Value
get_field empty k = undefined
get_field (field j v fs) k = elim (eqb j k) [ true ↦ v | false ↦ get_field fs k ]

unfoldable pub delete_field : Fields → ℕ → Fields
delete_field empty k = empty
delete_field (field j v fs) k = elim (eqb j k) [ true ↦ delete_field fs k | false ↦ field j v (delete_field fs k) ]

unfoldable pub set_field : Fields → ℕ → Value → Fields
set_field fs k v = field k v (delete_field fs k)

-- ---- data

-- v holds no function and no cell anywhere
unfoldable mutual
  pub plain : Value → Bool
  plain (atom a) = true
  plain (function p vs) = false
  plain (fields fs) = plain_fields fs
  plain (cell i) = false

  pub plain_fields : Fields → Bool
  plain_fields empty = true
  plain_fields (field k v fs) = plain v && plain_fields fs

-- there is such a constant, number, string or name where there are so many names
unfoldable pub known : Atom → ℕ → Bool
known (constant k) names = true
known (number z) names = true
known (text n) names = true
known (named n) names = ltb n names

-- v is data: constants, numbers, strings, names, finite records of data
unfoldable mutual
  pub datum : Value → ℕ → Bool
  datum (atom a) names = known a names
  datum (function p vs) names = false
  datum (fields fs) names = data_fields fs names
  datum (cell i) names = false

  pub data_fields : Fields → ℕ → Bool
  data_fields empty names = true
  data_fields (field k v fs) names = datum v names && data_fields fs names

-- ---- what a step makes of a value of the sort that it needs, and of any other

module _ {A : Type 0} where
  unfoldable pub on_atom : Value → (Atom → A) → A → A
  on_atom (atom a) f other = f a
  on_atom (function p vs) f other = other
  on_atom (fields fs) f other = other
  on_atom (cell i) f other = other

  unfoldable pub on_function : Value → (ℕ → Environment → A) → A → A
  on_function (atom a) f other = other
  on_function (function p vs) f other = f p vs
  on_function (fields fs) f other = other
  on_function (cell i) f other = other

  unfoldable pub on_fields : Value → (Fields → A) → A → A
  on_fields (atom a) f other = other
  on_fields (function p vs) f other = other
  on_fields (fields fs) f other = f fs
  on_fields (cell i) f other = other

  unfoldable pub on_cell : Value → (ℕ → A) → A → A
  on_cell (atom a) f other = other
  on_cell (function p vs) f other = other
  on_cell (fields fs) f other = other
  on_cell (cell i) f other = f i

  unfoldable pub on_number : Atom → (ℤ → A) → A → A
  on_number (constant k) f other = other
  on_number (number z) f other = f z
  on_number (text n) f other = other
  on_number (named n) f other = other

  unfoldable pub on_text : Atom → (ℕ → A) → A → A
  on_text (constant k) f other = other
  on_text (number z) f other = other
  on_text (text n) f other = f n
  on_text (named n) f other = other

  unfoldable pub on_name : Atom → (ℕ → A) → A → A
  on_name (constant k) f other = other
  on_name (number z) f other = other
  on_name (text n) f other = other
  on_name (named n) f other = f n

  unfoldable pub on_truth : Atom → (Bool → A) → A → A
  on_truth (constant constants.Undefined) f other = other
  on_truth (constant constants.Unit) f other = other
  on_truth (constant constants.True) f other = f true
  on_truth (constant constants.False) f other = f false
  on_truth (number z) f other = other
  on_truth (text n) f other = other
  on_truth (named n) f other = other

-- ---- operations. There is no result where document 01 gives no step

unfoldable pub same_number : ℤ → ℤ → Bool
same_number (pos m) (pos n) = eqb m n
same_number (pos m) (negsuc n) = false
same_number (negsuc m) (pos n) = false
same_number (negsuc m) (negsuc n) = eqb m n

-- different sorts are not equal
unfoldable pub same : Atom → Atom → Bool
same (constant j) (constant k) = eqb (constant_number j) (constant_number k)
same (constant j) (number z) = false
same (constant j) (text n) = false
same (constant j) (named n) = false
same (number y) (constant k) = false
same (number y) (number z) = same_number y z
same (number y) (text n) = false
same (number y) (named n) = false
same (text m) (constant k) = false
same (text m) (number z) = false
same (text m) (text n) = eqb m n
same (text m) (named n) = false
same (named m) (constant k) = false
same (named m) (number z) = false
same (named m) (text n) = false
same (named m) (named n) = eqb m n

unfoldable pub operate : Operation → Atom → Atom → Option Value
operate operations.Add a b = on_number a (λ y. on_number b (λ z. some (atom (number (y +ℤ z)))) none) none
operate operations.Less a b = on_number a (λ y. on_number b (λ z. some (truth (lt_z y z))) none) none
operate operations.Equal a b = some (truth (same a b))

-- ---- messages (ECMA-262, JSON.stringify)

-- a field with such a value vanishes: undefined, or a function
unfoldable pub left_out : Value → Bool
unfolding same
left_out (atom a) = same a (constant constants.Undefined)
left_out (function p vs) = true
left_out (fields fs) = false
left_out (cell i) = false

-- these fields, and before them one more unless it is left out
unfoldable pub kept : (out : Bool) → ℕ → Value → Fields → Fields
kept true k v fs = fs
kept false k v fs = field k v fs

-- What is sent of a value: fields vanish at every depth. The first field of a key counts: where it vanishes, so do the later ones.
unfoldable mutual
  unfolding left_out kept delete_field

  pub sent_as : Value → Value
  sent_as (atom a) = atom a
  sent_as (function p vs) = function p vs
  sent_as (fields fs) = fields (sent_fields fs)
  sent_as (cell i) = cell i

  pub sent_fields : Fields → Fields
  sent_fields empty = empty
  sent_fields (field k v fs) = kept (left_out v) k (sent_as v) (delete_field (sent_fields fs) k)
