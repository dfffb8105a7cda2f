-- What a manifest says (document 02, wish 4): its version, its permission set, and how many strings of the lists read set nothing.
use Rattle.std.specs.Prelude.{ℕ, zero, suc, Bool, true, false, ◌&&◌, ◌||◌, List, [], ◌∷◌, eqb, leb, length}
use Rattle.json_text.specs.Bytes.{head, tail, space, Rest, nothing, rest}
use Rattle.json_text.specs.Numbers.{is_digit}
use Rattle.json_text.specs.Values.{is_text}
use Rattle.manifest.specs.Strings.{ascii}
use Rattle.manifest.specs.Members.{deepest, members, repeated, find, Count, not_strings, strings, listed}

-- a list that is read: its key, and whether names and hosts count in it
pub record Source : Type 0 where
  pub key : List ℕ
  pub by_name : Bool
  pub by_host : Bool

-- versions 2 and 3 differ in these lists alone
unfoldable pub sources : ℕ → List Source
sources version =
    elim (eqb version 2) [
      | true ↦ record { key = ascii "permissions"; by_name = true; by_host = true } ∷ []
      | false ↦
          record { key = ascii "permissions"; by_name = true; by_host = false }
          ∷ record { key = ascii "host_permissions"; by_name = false; by_host = true }
          ∷ []
    ]

unfoldable pub total : List Source → List (List ℕ) → Count → Count
unfolding find listed
total [] ms c = c
total (s ∷ ss) ms c = total ss ms (listed s.by_name s.by_host (find s.key ms) c)

-- whether a number goes on with this byte
abbrev pub goes_on : ℕ → Bool
goes_on b = is_digit b || (eqb b 0x2e || (eqb b 0x65 || eqb b 0x45))

-- the version that a value spells: 2 or 3, and 0 for anything else
unfoldable pub version : Rest → ℕ
unfolding head tail
version nothing = 0
version (rest bs) =
    elim (goes_on (head (tail bs))) [
      | true ↦ 0
      | false ↦
          elim (eqb (head bs) 0x32) [ true ↦ 2 | false ↦ elim (eqb (head bs) 0x33) [ true ↦ 3 | false ↦ 0 ] ]
    ]

pub data Outcome : Type 0 where
  refused : (number place : ℕ) → Outcome
  accepted : (version set others : ℕ) → Outcome

-- 43: a text of at most 16,384 bytes whose value is an object
unfoldable pub is_object : List ℕ → Bool
unfolding head space is_text
is_object text = leb (length text) 16384 && (is_text deepest text && eqb (head (space text)) 0x7b)

abbrev pub counts : ℕ → Count → Outcome
counts v not_strings = refused 46 0
counts v (strings set others) = accepted v set others

-- 44, 45, 46, by the members of the top object
unfoldable pub judged_from : List (List ℕ) → Outcome
unfolding repeated version find sources total
judged_from ms =
    elim (repeated [] ms) [
      | true ↦ refused 44 0
      | false ↦
          elim (version (find (ascii "manifest_version") ms)) [
            | zero ↦ refused 45 0
            | suc v ↦ counts (suc v) (total (sources (suc v)) ms (strings 0 0))
          ]
    ]

unfoldable pub judged : List ℕ → Outcome
unfolding is_object members judged_from
judged text = elim (is_object text) [ false ↦ refused 43 0 | true ↦ judged_from (members text) ]
