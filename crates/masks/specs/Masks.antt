-- The four masks: the sorts of elements that the rules ask for, and the digits of the elements of a sort set in a list of words.
use Rattle.std.specs.Prelude.{ℕ, ◌+◌, ◌-◌, ◌*◌, ◌<◌, ◌≡◌, Bool, true, false, not, ◌&&◌, ◌||◌, List, [], ◌∷◌, eqb, ltb, get_or, take, drop, replicate}
use Rattle.table.specs.Words.{kind, first_kind}
use Rattle.table.specs.Code.{Code}
use Rattle.calculus.specs.Elements.{Making, nothing, a_function, a_record, a_cell, is_function, is_cell, sendable, any_record, elements}
use Rattle.calculus.specs.Layout.{bit, mark, pour, Words}
use Rattle.masks.specs.declared.Sort.{Sort}
use Rattle.masks.specs.declared.Sort.TheVariants as sorts
use Rattle.rows.specs.Mask.{Mask, made_as}

-- the property of the elements of a sort
unfoldable pub property : Sort → Code → ℕ → Bool
property sorts.Function c v = made_as c is_function v
property sorts.Record c v = any_record c v
property sorts.Cell c v = made_as c is_cell v
property sorts.Message c v = sendable c v

-- four rows, one after the other: functions, records, cells and what may be sent
pub record Masked (c : Code) (masks : List ℕ) (row : ℕ) : Type 0 where
  pub functions : Mask c (made_as c is_function) (take row masks)
  pub records : Mask c (any_record c) (take row (drop row masks))
  pub cells : Mask c (made_as c is_cell) (take row (drop (2 * row) masks))
  pub messages : Mask c (sendable c) (take row (drop (3 * row) masks))

-- what a word makes, as a number
unfoldable pub making_number : Making → ℕ
making_number nothing = 0
making_number a_function = 1
making_number a_record = 2
making_number a_cell = 3

-- what the words of kinds 16 to 36 make
unfoldable pub makes_by_kind : List ℕ
makes_by_kind =
    0 ∷ 0 ∷ 0 ∷ 0 ∷ 0
    ∷ 1  -- 21 function
    ∷ 0 ∷ 0 ∷ 0 ∷ 0 ∷ 0 ∷ 0
    ∷ 2  -- 28 empty record
    ∷ 0
    ∷ 2  -- 30 set
    ∷ 0
    ∷ 3  -- 32 new cell
    ∷ 0 ∷ 0 ∷ 0 ∷ 0 ∷ []

-- what a word makes, by its kind
unfoldable pub word_makes : ℕ → ℕ
word_makes w = get_or makes_by_kind (kind w - first_kind) 2

-- whether what is made is of a sort
unfoldable pub sort_has : Sort → ℕ → Bool
sort_has sorts.Function m = eqb m 1
sort_has sorts.Record m = eqb m 2
sort_has sorts.Cell m = eqb m 3
sort_has sorts.Message m = not (eqb m 1 || eqb m 3)

-- digit n set or not
unfoldable pub mark_if : Bool → List ℕ → ℕ → List ℕ
mark_if true ws n = mark ws n
mark_if false ws n = ws

-- the mask of each sort with the element v set where what is made, m, is of that sort
unfoldable pub mark_word : ℕ → ℕ → ℕ → List ℕ → List ℕ
mark_word row v m ws =
    mark_if (sort_has sorts.Message m)
    (mark_if (sort_has sorts.Cell m) (mark_if (sort_has sorts.Record m) (mark_if (sort_has sorts.Function m) ws v) (32 * row + v)) (64 * row + v))
    (96 * row + v)

-- the masks with their plain elements, which fill `lead` words: 7 among the records, and all that may be sent
unfoldable pub plain_masks : (row lead : ℕ) → List ℕ → List ℕ
plain_masks row lead ws = pour (mark ws (32 * row + 7)) (3 * row) (replicate lead 4294967295)

-- the first word of the mask of a sort
unfoldable pub first_word : Sort → ℕ → ℕ
first_word sorts.Function row = 0
first_word sorts.Record row = row
first_word sorts.Cell row = 2 * row
first_word sorts.Message row = 3 * row

-- the masks with their elements below n
pub record Filled (c : Code) (row n : ℕ) (masks : List ℕ) : Type 0 where
  pub words : Words masks
  pub digits : (s : Sort) (v : ℕ) → v < 32 * row → bit masks (32 * first_word s row + v) ≡ (ltb v n && property s c v)

-- every word of a slice of zeros into which the masks were filled: the four masks, in whose rows no other digit is set, and the words behind them as they were
pub record FilledIn (c : Code) (row : ℕ) (old new : List ℕ) : Type 0 where
  pub masked : Masked c new row
  pub filled : Filled c row (elements c) new
  pub rest : drop (4 * row) new ≡ drop (4 * row) old
