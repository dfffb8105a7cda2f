-- The listing of *relay*, the words that are read from it, and single lines, computed.
use Prim.Native.Nat.{ℕ, ◌^◌}
use mathlib.Core.Path.{◌≡◌, refl}
use mathlib.Core.List.{List, [], ◌∷◌, map}
use Rattle.table.specs.Words.{word_of, parts, parts_by_kind}
use Rattle.table.specs.Scan.{next, under}
use Rattle.table.specs.Code.{tasks, trace}
use Rattle.text.specs.Text.{bytes, numeral, digits, glyph, set, decimal}
use Rattle.listing.specs.Keywords.{entries, entry_of, used}
use Rattle.listing.specs.Spelling.{spelled, line_of, spelled_argument, signed_decimal, line_word, guessed_kind, kind_from, prefix, guessed, guessed_argument, folded, same, spells}
use Rattle.listing.specs.Listing.{listing, depths, depth_of, lines}

abbrev relay : List ℕ
relay =
    word_of 1 2 ∷ word_of 2 0 ∷ word_of 3 8 ∷ word_of 4 0 ∷ word_of 35 0 ∷ word_of 19 1 ∷ word_of 20 0
    ∷ word_of 2 1 ∷ word_of 3 2 ∷ word_of 4 8 ∷ word_of 36 2 ∷ []

abbrev text : List ℕ
text =
    bytes "system 2\nhandler 0\npermissions 000008\nguard 000000\n  send 000000\n    name 1\n    variable 0\nhandler 1\npermissions 000002\nguard 000008\n  exercise 000002\n"

pub relay-listing : listing relay ≡ text
unfolding listing depths lines spelled line_of entry_of entries spelled_argument set decimal numeral digits glyph tasks trace next depth_of parts parts_by_kind under
relay-listing = refl

-- ---- single lines

abbrev texts : List (List ℕ)
texts =
    bytes "number -8388608\n"
    ∷ bytes "number -0\n"
    ∷ bytes "number 8388608\n"
    ∷ bytes "number 8388607\n"
    ∷ bytes "variable 16777215\n"
    ∷ bytes "variable 16777216\n"
    ∷ bytes "variable 01\n"
    ∷ bytes "function\n"
    ∷ bytes "function 0\n"
    ∷ bytes "send 00000A\n"
    ∷ bytes "send 00000a\n"
    ∷ bytes "if"
    ∷ bytes "if\n"
    ∷ bytes "\n"
    ∷ []
    ∷ bytes "sequences\n"
    ∷ bytes "name 1\r\n"
    ∷ []

pub single-lines :
    map line_word texts
    ≡ word_of 17 (2 ^ 23) ∷ 0 ∷ 0 ∷ word_of 17 8388607 ∷ word_of 20 16777215 ∷ 0 ∷ 0 ∷ word_of 21 0 ∷ 0 ∷ 0 ∷ word_of 35 10 ∷ 0 ∷ word_of 25 0 ∷ 0 ∷ 0 ∷ 0 ∷ 0 ∷ []
unfolding line_word guessed_kind kind_from used prefix entries entry_of guessed guessed_argument folded same spells spelled line_of spelled_argument signed_decimal set decimal numeral digits glyph
single-lines = refl
