-- Texts, computed: accepted, refused, and the units of strings.
-- Assumes nothing.
use Prim.Native.Nat.{ℕ}
use Prim.Native.Char.{code}
use Prim.Native.String.{String, [] as ε, ◌∷◌ as ◌◂◌}
use mathlib.Core.Path.{◌≡◌, refl}
use mathlib.Core.Bool.{Bool, true, not, ◌&&◌}
use mathlib.Core.List.{List, [], ◌∷◌, ◌++◌}
use Rattle.json_text.specs.Bytes.{head, tail, then, after_by, units_by, space}
use Rattle.json_text.specs.Numbers.{digits, some_digits, minus, int, frac, sign, exp, number}
use Rattle.json_text.specs.Strings.{hex_of, hexed, hex_unit, escape_of, escaped, continued, low, high, second, point_of, units_of, pointed, character, units}
use Rattle.json_text.specs.Values.{literal, start, closing, mark, name, separated, item, items, value, is_text}

abbrev pub ascii : String → List ℕ
ascii ε = []
ascii (c ◂ s) = code c ∷ ascii s

abbrev pub every : (List ℕ → Bool) → List (List ℕ) → Bool
every p [] = true
every p (t ∷ ts) = p t && every p ts

abbrev quoted : List ℕ → List ℕ
quoted bs = 34 ∷ (bs ++ 34 ∷ [])

abbrev pub accepted : List (List ℕ)
accepted =
    ascii "{ \"a\\u0062\" : [-1.5e+3, \"x\\/\", true,false , null, {}, [] ] }"
    ∷ ascii "\t0\r\n"
    ∷ ascii "-0.0E-0"
    ∷ ascii "\"\\\"\\\\\\/\\b\\f\\n\\r\\t\\ud800\""
    ∷ quoted (0xc2 ∷ 0x80 ∷ 0xdf ∷ 0xbf ∷ 0xe0 ∷ 0xa0 ∷ 0x80 ∷ 0xed ∷ 0x9f ∷ 0xbf ∷ 0xe2 ∷ 0x80 ∷ 0xa8 ∷ [])
    ∷ quoted (0xef ∷ 0xbf ∷ 0xbf ∷ 0xf0 ∷ 0x90 ∷ 0x80 ∷ 0x80 ∷ 0xf4 ∷ 0x8f ∷ 0xbf ∷ 0xbf ∷ 0x7f ∷ [])
    ∷ []

abbrev pub refused : List (List ℕ)
refused =
    []
    ∷ ascii "01"
    ∷ ascii "-"
    ∷ ascii "1."
    ∷ ascii ".5"
    ∷ ascii "1e"
    ∷ ascii "+1"
    ∷ ascii "NaN"
    ∷ ascii "tru"
    ∷ ascii "[1,]"
    ∷ ascii "{\"a\":1,}"
    ∷ ascii "{a:1}"
    ∷ ascii "{\"a\" 1}"
    ∷ ascii "[1"
    ∷ ascii "[1}"
    ∷ ascii "'a'"
    ∷ ascii "\"a"
    ∷ ascii "\"\\x\""
    ∷ ascii "\"\\u00g0\""
    ∷ ascii "1 2"
    ∷ ascii "[[[[]]]]"
    ∷ (0xef ∷ 0xbb ∷ 0xbf ∷ 0x30 ∷ [])
    ∷ quoted (0x1f ∷ [])
    ∷ quoted (0x80 ∷ [])
    ∷ quoted (0xc1 ∷ 0xbf ∷ [])
    ∷ quoted (0xe0 ∷ 0x9f ∷ 0xbf ∷ [])
    ∷ quoted (0xed ∷ 0xa0 ∷ 0x80 ∷ [])
    ∷ quoted (0xf0 ∷ 0x8f ∷ 0xbf ∷ 0xbf ∷ [])
    ∷ quoted (0xf4 ∷ 0x90 ∷ 0x80 ∷ 0x80 ∷ [])
    ∷ quoted (0xf5 ∷ 0x80 ∷ 0x80 ∷ 0x80 ∷ [])
    ∷ quoted (0xe2 ∷ 0x80 ∷ [])
    ∷ []

-- nested three deep at most
pub judged : every (is_text 3) accepted && every (λ t. not (is_text 3 t)) refused ≡ true
unfolding head tail then after_by space digits some_digits minus int frac sign exp number hex_of hexed hex_unit escape_of escaped continued low high second point_of units_of pointed character literal start closing mark name separated item items value is_text
judged = refl

-- U+1F600 as an escaped pair and as four bytes; a surrogate that stands alone
pub pair : units (ascii "\\ud83d\\uDE00\"") ≡ 0xd83d ∷ 0xde00 ∷ []
unfolding head tail units_by hex_of hexed hex_unit escape_of escaped continued low high second point_of units_of pointed character
pair = refl

pub raw : units (0xf0 ∷ 0x9f ∷ 0x98 ∷ 0x80 ∷ 0x22 ∷ []) ≡ 0xd83d ∷ 0xde00 ∷ []
unfolding head tail units_by hex_of hexed hex_unit escape_of escaped continued low high second point_of units_of pointed character
raw = refl

pub alone : units (ascii "\\ud83d\\n\"") ≡ 0xd83d ∷ 10 ∷ []
unfolding head tail units_by hex_of hexed hex_unit escape_of escaped continued low high second point_of units_of pointed character
alone = refl
