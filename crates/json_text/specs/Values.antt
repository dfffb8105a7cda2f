-- Values (RFC 8259, sections 2 to 5): where a value ends that may nest so many arrays and objects, and where the items of one start.
-- An item is an element of an array, or a member of an object.
use Rattle.std.specs.Prelude.{ℕ, zero, suc, Bool, true, false, List, [], ◌∷◌, eqb}
use Rattle.json_text.specs.Bytes.{head, tail, Rest, nothing, rest, then, Step, fails, goes, ends, after, starts, space}
use Rattle.json_text.specs.Numbers.{number}
use Rattle.json_text.specs.Strings.{character, string}

-- these bytes
unfoldable pub literal : List ℕ → List ℕ → Rest
unfolding head tail
literal [] bs = rest bs
literal (a ∷ word) bs = elim (eqb (head bs) a) [ true ↦ literal word (tail bs) | false ↦ nothing ]

-- what starts a value: all of a value without parts, or the bracket that opens an object (keyed) or an array
pub data Start : Type 0 where
  plain : Rest → Start
  opens : (keyed : Bool) (rest : List ℕ) → Start

-- value = false / null / true / object / array / number / string (section 3)
unfoldable pub start : List ℕ → Start
unfolding head tail literal character number
start bs =
    elim (eqb (head bs) 0x66) [
      | true ↦ plain (literal (0x61 ∷ 0x6c ∷ 0x73 ∷ 0x65 ∷ []) (tail bs))
      | false ↦
          elim (eqb (head bs) 0x6e) [
            | true ↦ plain (literal (0x75 ∷ 0x6c ∷ 0x6c ∷ []) (tail bs))
            | false ↦
                elim (eqb (head bs) 0x74) [
                  | true ↦ plain (literal (0x72 ∷ 0x75 ∷ 0x65 ∷ []) (tail bs))
                  | false ↦
                      elim (eqb (head bs) 0x7b) [
                        | true ↦ opens true (tail bs)
                        | false ↦
                            elim (eqb (head bs) 0x5b) [
                              | true ↦ opens false (tail bs)
                              | false ↦
                                  elim (eqb (head bs) 0x22) [ true ↦ plain (string (tail bs)) | false ↦ plain (number bs) ]
                            ]
                      ]
                ]
          ]
    ]

unfoldable pub closing : Bool → ℕ
closing true = 0x7d
closing false = 0x5d

-- this byte, then white space
unfoldable pub mark : ℕ → List ℕ → Rest
unfolding head tail space
mark b bs = elim (eqb (head bs) b) [ true ↦ rest (space (tail bs)) | false ↦ nothing ]

-- what stands before the value of an item: the string and the name-separator of a member (section 4), nothing of an element
unfoldable pub name : Bool → List ℕ → Rest
unfolding head tail space mark character then
name false bs = rest bs
name true bs = elim (eqb (head bs) 0x22) [ true ↦ then (string (tail bs)) (λ cs. mark 0x3a (space cs)) | false ↦ nothing ]

-- behind an item and white space: a value-separator, or the bracket that closes
unfoldable pub separated : Bool → List ℕ → Step
unfolding head tail space closing
separated k bs =
    elim (eqb (head bs) 0x2c) [
      | true ↦ goes [] (space (tail bs))
      | false ↦
          elim (eqb (head bs) (closing k)) [ true ↦ ends (tail bs) | false ↦ fails ]
    ]

abbrev pub separated_after : Bool → Rest → Step
separated_after k nothing = fails
separated_after k (rest bs) = separated k (space bs)

-- an item, whose value is read by f, with what separates it from the next
unfoldable pub item : (List ℕ → Rest) → Bool → List ℕ → Step
unfolding name separated space then
item f k bs = separated_after k (then (name k bs) f)

-- behind an opening bracket: the one that closes, or items (sections 4 and 5)
unfoldable pub items : (List ℕ → Rest) → Bool → List ℕ → Rest
unfolding head tail space closing item
items f k bs =
    elim (eqb (head (space bs)) (closing k)) [ true ↦ rest (tail (space bs)) | false ↦ after (item f k) (space bs) ]

-- a value, with arrays and objects nested at most so deep
unfoldable pub value : (nest : ℕ) → List ℕ → Rest
unfolding start items
value zero bs = elim (start bs) [ plain r ↦ r | opens k cs ↦ nothing ]
value (suc m) bs = elim (start bs) [ plain r ↦ r | opens k cs ↦ items (value m) k cs ]

-- where the first item starts, behind an opening bracket
unfoldable pub first : Bool → List ℕ → Rest
unfolding head space closing
first k bs = elim (eqb (head (space bs)) (closing k)) [ true ↦ nothing | false ↦ rest (space bs) ]

-- where each item starts
unfoldable pub starts_from : (List ℕ → Rest) → Bool → Rest → List (List ℕ)
unfolding item
starts_from f k nothing = []
starts_from f k (rest bs) = starts (item f k) bs

unfoldable pub parts : (List ℕ → Rest) → Bool → List ℕ → List (List ℕ)
unfolding first starts_from
parts f k bs = starts_from f k (first k bs)

abbrev pub over : List ℕ → Bool
over [] = true
over (b ∷ bs) = false

-- JSON-text = ws value ws
unfoldable pub is_text : (nest : ℕ) → List ℕ → Bool
unfolding value space
is_text nest bs = elim (value nest (space bs)) [ nothing ↦ false | rest cs ↦ over (space cs) ]
