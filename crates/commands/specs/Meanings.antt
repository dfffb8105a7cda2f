-- The meaning of each number of a refusal, and the help (document 02, all wishes that refuse).
use Rattle.std.specs.Prelude.{ℕ, zero, suc, ◌-◌, ◌≤◌, ◌≡◌, true, false, List, [], ◌∷◌, ◌++◌, eqb, ltb, length, take, drop}
use Rattle.text.specs.Text.{bytes}
use Rattle.listing.specs.Decoding.{line_size}

-- ---- lines

-- a text from line k on, counted from 0
unfoldable pub from_line : ℕ → List ℕ → List ℕ
from_line zero text = text
from_line (suc k) text = from_line k (drop (line_size text) text)

-- line k with its line feed, nothing behind the last one
unfoldable pub line_at : ℕ → List ℕ → List ℕ
unfolding from_line
line_at k text = take (line_size (from_line k text)) (from_line k text)

-- so many lines, from line k on
unfoldable pub lines_at : (k count : ℕ) → List ℕ → List ℕ
unfolding from_line
lines_at k count text = take (length (from_line k text) - length (from_line count (from_line k text))) (from_line k text)

-- the place behind k lines from a place on
pub record Behind (text : List ℕ) (start k place : ℕ) : Type 0 where
  pub rest : drop place text ≡ from_line k (drop start text)
  pub after : start ≤ place
  pub inside : place ≤ length text

-- ---- numbers

-- the numbers that have a meaning, in the order of the page
unfoldable pub numbers : List ℕ
numbers =
    1 ∷ 2 ∷ 3 ∷ 4 ∷ 5 ∷ 6 ∷ 7 ∷ 8 ∷ 9 ∷ 10 ∷ 11 ∷ 12 ∷ 20 ∷ 21 ∷ 22 ∷ 23 ∷ 30 ∷ 31 ∷ 40 ∷ 41 ∷ 42 ∷ 43 ∷ 44 ∷ 45 ∷ 46 ∷ 47 ∷ 48 ∷ 49 ∷ 50
    ∷ 51 ∷ 52 ∷ 53 ∷ 54 ∷ 55 ∷ 56 ∷ 57 ∷ 58 ∷ 59 ∷ 61 ∷ []

-- a line for each of them, and one for every other number
unfoldable pub page : List ℕ
page =
    bytes "The system is empty, or its first word is not `system`.\n"
    ++ bytes "The system has more than 1,024 words.\n"
    ++ bytes "The system has more than 32 handlers, or 64 if it is wide.\n"
    ++ bytes "A word of a handler is missing or is another one: `handler`, `permissions` and `guard` come first, in this order.\n"
    ++ bytes "The name of the handler is over 31, or 63 if the system is wide.\n"
    ++ bytes "An earlier handler has the same name and the same permissions.\n"
    ++ bytes "A term has to stand here, and this word is none.\n"
    ++ bytes "The system ends where a term is still needed.\n"
    ++ bytes "The argument is out of its range.\n"
    ++ bytes "The variable has no binder: 0 is the innermost one.\n"
    ++ bytes "The term is deeper than 64.\n"
    ++ bytes "The system goes on after its last handler.\n"
    ++ bytes "A set has a permission above 23.\n"
    ++ bytes "The slice for the estimate is too short.\n"
    ++ bytes "The work slice is too short.\n"
    ++ bytes "The least estimate has more facts than the ceiling.\n"
    ++ bytes "The bytes are no whole words, or too few.\n"
    ++ bytes "There are more bytes than a system may have here.\n"
    ++ bytes "The line is not how a word is written, or does not start with two spaces for each depth.\n"
    ++ bytes "The listing has more than 65,536 bytes.\n"
    ++ bytes "The output has no room for all of it.\n"
    ++ bytes "The bytes are no JSON text, or more than 16,384, or nested deeper than 16, or the value is not an object.\n"
    ++ bytes "A key of the top object stands there twice.\n"
    ++ bytes "`manifest_version` is missing, or is neither 2 nor 3.\n"
    ++ bytes "A list that is read is not an array of strings.\n"
    ++ bytes "No handler of the two systems has this name and these permissions.\n"
    ++ bytes "The joined system has more than 32 handlers.\n"
    ++ bytes "The joined system has more than 1,024 words.\n"
    ++ bytes "The output has no room for the joined system.\n"
    ++ bytes "The slice for positions is shorter than the number of handlers.\n"
    ++ bytes "The estimate has more or fewer words than the system asks for.\n"
    ++ bytes "The estimate has a bit set that stands for nothing.\n"
    ++ bytes "The estimate breaks a rule of this word.\n"
    ++ bytes "A narrow system has no room for more than 32 handlers.\n"
    ++ bytes "A narrow system has no name over 31.\n"
    ++ bytes "The output has no room for the converted system.\n"
    ++ bytes "The stream ends inside a system.\n"
    ++ bytes "A system of a stream has more than 256 words.\n"
    ++ bytes "The stream goes on after 10,000 systems.\n"
    ++ bytes "No refusal has this number.\n"

-- the place of a number in a list, the length of the list where it is not there
unfoldable pub position : ℕ → List ℕ → ℕ
position n [] = 0
position n (m ∷ ms) = elim (eqb m n) [ true ↦ 0 | false ↦ suc (position n ms) ]

unfoldable pub meaning : ℕ → List ℕ
unfolding line_at position numbers page
meaning n = line_at (position n numbers) page

-- a number over 100 is the second system's
unfoldable pub sentence : ℕ → List ℕ
unfolding meaning
sentence n = elim (ltb 100 n) [ true ↦ bytes "In the second system: " ++ meaning (n - 100) | false ↦ meaning n ]

-- ---- the help

unfoldable pub help : List ℕ
help =
    bytes "wiphosega text             words in, their listing out\n"
    ++ bytes "wiphosega words            a listing in, its words out\n"
    ++ bytes "wiphosega leak RHO BOUND CEILING   a listing in, its leak out; sets in hexadecimal digits, BOUND 0 if left out, CEILING on facts\n"
    ++ bytes "wiphosega deliveries       a listing in, for each send and each handler whether it is delivered, and if not, why\n"
    ++ bytes "wiphosega senders RHO      a listing in, for each handler who may have sent to it: handlers by position, opponent\n"
    ++ bytes "wiphosega order RHO        a listing in, an order of its live handlers, each after all that may send to it, or else a loop: by position\n"
    ++ bytes "wiphosega estimate RHO     a listing in, the words of its least estimate out\n"
    ++ bytes "wiphosega audit RHO        words in: how many the system has, the system, an estimate; whether the estimate obeys every rule out\n"
    ++ bytes "wiphosega check            a listing in, what is wrong with it out\n"
    ++ bytes "wiphosega join             two listings in, the second laid over the first; the joined listing out\n"
    ++ bytes "wiphosega block NAME SET   the same in, that handler's lines out, the second listing's if it has it\n"
    ++ bytes "wiphosega manifest         a manifest in, its version and permission set out\n"
    ++ bytes "wiphosega pack RHO         a listing in, a system of the stream of a class out; RHO in hexadecimal digits\n"
    ++ bytes "wiphosega widen            the words of a narrow system in, those of the wide one out\n"
    ++ bytes "wiphosega narrow           the words of a wide system in, those of the narrow one out\n"
    ++ bytes "wiphosega explain NUMBER   the meaning of a refusal's number\n"
