-- What a string of a list says (document 02, wish 4): the set of a name or of a host pattern.
use Rattle.std.specs.Prelude.{ℕ, ◌*◌, ◌^◌, Bool, true, false, ◌||◌, List, [], ◌∷◌}
use Prim.Native.Char.{code}
use Prim.Native.String.{String, [] as ε, ◌∷◌ as ◌◂◌}
use Rattle.permset.specs.Sets.{union}
use Rattle.json_text.specs.Units.{matches, contains}

-- the units of a word of ASCII
abbrev pub ascii : String → List ℕ
ascii ε = []
ascii (c ◂ s) = code c ∷ ascii s

-- the names of permissions, that of permission i at place i
abbrev pub names : List (List ℕ)
names =
    ascii "storage"
    ∷ ascii "tabs"
    ∷ ascii "cookies"
    ∷ ascii "history"
    ∷ ascii "downloads"
    ∷ ascii "bookmarks"
    ∷ ascii "notifications"
    ∷ ascii "webRequest"
    ∷ ascii "management"
    ∷ ascii "proxy"
    ∷ []

-- the set of a name that is listed, where `bit` is that of the first
unfoldable pub named : List (List ℕ) → (bit : ℕ) → List ℕ → ℕ
unfolding matches
named [] bit us = 0
named (n ∷ ns) bit us = elim (matches true n us) [ true ↦ bit | false ↦ named ns (2 * bit) us ]

unfoldable pub is_host : List ℕ → Bool
unfolding matches contains
is_host us = matches true (ascii "<all_urls>") us || contains (ascii "://") us

-- the set of a string as a name, or as a host, where those count
unfoldable pub name_set : (counts : Bool) → List ℕ → ℕ
unfolding named
name_set false us = 0
name_set true us = named names 1 us

unfoldable pub host_set : (counts : Bool) → List ℕ → ℕ
unfolding is_host
host_set false us = 0
host_set true us = elim (is_host us) [ true ↦ 2 ^ 23 | false ↦ 0 ]

-- 0 where it sets nothing
unfoldable pub set_of : (by_name by_host : Bool) → List ℕ → ℕ
unfolding name_set host_set union
set_of by_name by_host us = union (name_set by_name us) (host_set by_host us)
