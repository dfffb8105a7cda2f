-- Strings (RFC 8259, sections 7 and 8) as UTF-16 code units: an escape `\u` is one unit, so a surrogate that stands alone is itself,
-- and two that make a pair are the pair of the character that UTF-8 would have spelled.
use Rattle.std.specs.Prelude.{ℕ, suc, ◌+◌, ◌-◌, ◌*◌, ◌/◌, ◌%◌, ◌^◌, true, false, List, [], ◌∷◌, eqb, ltb, length}
use Rattle.json_text.specs.Bytes.{head, tail, within, Rest, Step, fails, goes, ends, after, units_by}

-- the number of a hexadecimal digit; 16 for any other byte
unfoldable pub hex_of : ℕ → ℕ
hex_of b =
    elim (within 0x30 0x39 b) [
      | true ↦ b - 0x30
      | false ↦
          elim (within 0x41 0x46 b) [
            | true ↦ b - 0x37
            | false ↦
                elim (within 0x61 0x66 b) [ true ↦ b - 0x57 | false ↦ 16 ]
          ]
    ]

-- what the byte behind a backslash stands for: `"` `\` `/` b f n r t; 0 for any other
unfoldable pub escape_of : ℕ → ℕ
escape_of b =
    elim (eqb b 0x22) [
      | true ↦ 0x22
      | false ↦
          elim (eqb b 0x5c) [
            | true ↦ 0x5c
            | false ↦
                elim (eqb b 0x2f) [
                  | true ↦ 0x2f
                  | false ↦
                      elim (eqb b 0x62) [
                        | true ↦ 0x08
                        | false ↦
                            elim (eqb b 0x66) [
                              | true ↦ 0x0c
                              | false ↦
                                  elim (eqb b 0x6e) [
                                    | true ↦ 0x0a
                                    | false ↦
                                        elim (eqb b 0x72) [
                                          | true ↦ 0x0d
                                          | false ↦
                                              elim (eqb b 0x74) [ true ↦ 0x09 | false ↦ 0 ]
                                        ]
                                  ]
                            ]
                      ]
                ]
          ]
    ]

-- a number and the bytes behind it, or none
pub data Point : Type 0 where
  bad : Point
  point : (code : ℕ) (rest : List ℕ) → Point

-- the units of a code point: itself, or a pair of surrogates
unfoldable pub units_of : ℕ → List ℕ
units_of c =
    elim (ltb c (2 ^ 16)) [ true ↦ c ∷ [] | false ↦ (0xd800 + (c - 2 ^ 16) / 2 ^ 10) ∷ (0xdc00 + (c - 2 ^ 16) % 2 ^ 10) ∷ [] ]

unfoldable pub pointed : Point → Step
unfolding units_of
pointed bad = fails
pointed (point c bs) = goes (units_of c) bs

-- one more hexadecimal digit
unfoldable pub hexed : Point → Point
unfolding head tail hex_of
hexed bad = bad
hexed (point c bs) =
    elim (ltb (hex_of (head bs)) 16) [ true ↦ point (c * 16 + hex_of (head bs)) (tail bs) | false ↦ bad ]

-- behind `\u`: 4HEXDIG
unfoldable pub hex_unit : List ℕ → Step
unfolding hexed pointed
hex_unit bs = pointed (hexed (hexed (hexed (hexed (point 0 bs)))))

-- behind a backslash
unfoldable pub escaped : List ℕ → Step
unfolding head tail hex_unit escape_of
escaped bs =
    elim (eqb (head bs) 0x75) [
      | true ↦ hex_unit (tail bs)
      | false ↦
          elim (eqb (escape_of (head bs)) 0) [ true ↦ fails | false ↦ goes (escape_of (head bs) ∷ []) (tail bs) ]
    ]

-- one more byte of a character, between two bounds
unfoldable pub continued : (low high : ℕ) → Point → Point
unfolding head tail
continued low high bad = bad
continued low high (point c bs) =
    elim (within low high (head bs)) [ true ↦ point (c * 64 + (head bs - 0x80)) (tail bs) | false ↦ bad ]

-- the bounds of the second byte, by the first (RFC 3629, section 4): no overlong form, no surrogate, nothing over 10FFFF
unfoldable pub low : ℕ → ℕ
low a = elim (eqb a 0xe0) [ true ↦ 0xa0 | false ↦ elim (eqb a 0xf0) [ true ↦ 0x90 | false ↦ 0x80 ] ]

unfoldable pub high : ℕ → ℕ
high a = elim (eqb a 0xed) [ true ↦ 0x9f | false ↦ elim (eqb a 0xf4) [ true ↦ 0x8f | false ↦ 0xbf ] ]

-- the first two bytes of a character, the first of which says `base` and its own bits
unfoldable pub second : (base : ℕ) → List ℕ → Point
unfolding head tail continued low high
second base bs = continued (low (head bs)) (high (head bs)) (point (head bs - base) (tail bs))

abbrev further : Point → Point
further p = continued 0x80 0xbf p

-- the code point of a character of two, three or four bytes
unfoldable pub point_of : List ℕ → Point
unfolding head continued second
point_of bs =
    elim (within 0xc2 0xdf (head bs)) [
      | true ↦ second 0xc0 bs
      | false ↦
          elim (within 0xe0 0xef (head bs)) [
            | true ↦ further (second 0xe0 bs)
            | false ↦
                elim (within 0xf0 0xf4 (head bs)) [ true ↦ further (further (second 0xf0 bs)) | false ↦ bad ]
          ]
    ]

-- a character (section 7), behind the first quotation mark of a string or a character before: the last quotation mark ends it,
-- a control character is none
unfoldable pub character : List ℕ → Step
unfolding head tail escaped point_of pointed
character bs =
    elim (eqb (head bs) 0x22) [
      | true ↦ ends (tail bs)
      | false ↦
          elim (eqb (head bs) 0x5c) [
            | true ↦ escaped (tail bs)
            | false ↦
                elim (ltb (head bs) 0x20) [
                  | true ↦ fails
                  | false ↦
                      elim (ltb (head bs) 0x80) [ true ↦ goes (head bs ∷ []) (tail bs) | false ↦ pointed (point_of bs) ]
                ]
          ]
    ]

-- a string behind its first quotation mark
abbrev pub string : List ℕ → Rest
string bs = after character bs

-- its units
abbrev pub units : List ℕ → List ℕ
units bs = units_by character (suc (length bs)) bs
