-- Manifests, computed.
-- Assumes nothing.
use Prim.Native.Nat.{ℕ}
use mathlib.Core.Path.{◌≡◌, refl}
use mathlib.Core.List.{List, [], ◌∷◌, map}
use Rattle.permset.specs.Sets.{union}
use Rattle.json_text.specs.Bytes.{head, tail, then, after_by, starts_by, units_by, space}
use Rattle.json_text.specs.Numbers.{digits, some_digits, minus, int, frac, sign, exp, number}
use Rattle.json_text.specs.Strings.{hex_of, hexed, hex_unit, escape_of, escaped, continued, low, high, second, point_of, units_of, pointed, character}
use Rattle.json_text.specs.Units.{matches, contains}
use Rattle.json_text.specs.Values.{literal, start, closing, mark, name, separated, item, items, first, starts_from, parts, value, is_text}
use Rattle.manifest.specs.Strings.{ascii, named, is_host, name_set, host_set, set_of}
use Rattle.manifest.specs.Members.{members, has, repeated, find, counted, listed}
use Rattle.manifest.specs.Manifest.{sources, total, version, is_object, refused, accepted, judged_from, judged}

abbrev pub texts : List (List ℕ)
texts =
    ascii " {\"manifest_version\":3,\"permissions\":[\"tabs\",\"pro\\u0078y\",\"https://a/*\",\"x\"],\"host_permissions\":[\"storage\"]}\n"
    ∷ ascii "{\"manifest_version\":2,\"permissions\":[\"tabs\",\"https:\\/\\/a\",\"x\"],\"host_permissions\":7}"
    ∷ ascii "{\"manifest_version\":3,\"host_permissions\":[\"<all_urls>\"],\"a\":{\"b\":1,\"b\":2}}"
    ∷ ascii "{\"manifest_version\":2,}"
    ∷ ascii "[2]"
    ∷ ascii "{\"manifest_version\":9,\"a\":1,\"\\u0061\":2}"
    ∷ ascii "{\"manifest_version\":2.0,\"permissions\":null}"
    ∷ ascii "{\"permissions\":null}"
    ∷ ascii "{\"manifest_version\":2,\"permissions\":null}"
    ∷ ascii "{\"manifest_version\":3,\"permissions\":[],\"host_permissions\":[1]}"
    ∷ []

pub answers : map judged texts
    ≡ accepted 3 0x202 3
    ∷ accepted 2 0x800002 1
    ∷ accepted 3 0x800000 0
    ∷ refused 43 0
    ∷ refused 43 0
    ∷ refused 44 0
    ∷ refused 45 0
    ∷ refused 45 0
    ∷ refused 46 0
    ∷ refused 46 0
    ∷ []
unfolding union head tail then after_by starts_by units_by space digits some_digits minus int frac sign exp number hex_of hexed hex_unit escape_of escaped continued low high second point_of units_of pointed character matches contains literal start closing mark name separated item items first starts_from parts value is_text named is_host name_set host_set set_of members has repeated find counted listed sources total version is_object judged_from judged
answers = refl
