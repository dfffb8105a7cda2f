-- Samples of the two converters, computed: *direct* of document 01, what is written up and down, and each refusal.
use Prim.Native.Nat.{ℕ, zero, suc}
use mathlib.Core.Path.{◌≡◌, refl}
use mathlib.Core.Bool.{true, false}
use mathlib.Core.List.{List, [], ◌∷◌}
use lib.ListN.{replicate}
use Rattle.table.specs.Words.{word_of, parts, parts_by_kind, limit, limits_by_kind, names_of}
use Rattle.table.specs.Scan.{first_of, has, tests, fault, missing, keep, under, next, scan, reading}
use Rattle.widths.specs.Converters.{rekinded, widened, read_as, wide_name, names_fit, fits_narrow, narrowable, convertible, written, refusal}
use Rattle.widths.specs.Converters.{answer, out_after, convert_answer, convert_out}

-- one handler with a name, the empty sets and a body, in a table of a kind
abbrev alone : (kind name : ℕ) → List ℕ → List ℕ
alone k n body = word_of k 1 ∷ word_of 2 n ∷ word_of 3 0 ∷ word_of 4 0 ∷ body

unfoldable pub direct : List ℕ
direct = alone 1 0 (word_of 36 2 ∷ [])

-- blocks of name 0 with distinct permission sets, so many
unfoldable pub handlers : ℕ → List ℕ
handlers n = elim n [ zero ↦ [] | suc (m → r) ↦ word_of 2 0 ∷ word_of 3 m ∷ word_of 4 0 ∷ word_of 28 0 ∷ r ]

-- up, with a word to spare and without room; and down again
pub written-words : (
    convert_out true direct (replicate 6 7)
    ∷ convert_out true direct (replicate 4 7)
    ∷ convert_out false (widened direct) (replicate 6 7)
    ∷ [])
    ≡ (alone 5 0 (word_of 36 2 ∷ 7 ∷ []) ∷ replicate 4 7 ∷ alone 1 0 (word_of 36 2 ∷ 7 ∷ []) ∷ [])
unfolding direct convert_out out_after convert_answer answer convertible narrowable fits_narrow names_fit wide_name read_as rekinded reading scan fault first_of tests has missing keep next under names_of limit limits_by_kind parts parts_by_kind
written-words = refl

-- up: direct, without room, wide already, no word, and a table that is refused
pub up : (
    convert_answer true direct 5
    ∷ convert_answer true direct 4
    ∷ convert_answer true (widened direct) 5
    ∷ convert_answer true [] 5
    ∷ convert_answer true (word_of 1 33 ∷ []) 0
    ∷ [])
    ≡ (written 5 ∷ refusal 57 0 ∷ refusal 1 0 ∷ refusal 1 0 ∷ refusal 3 0 ∷ [])
unfolding direct convert_answer answer convertible read_as rekinded reading scan fault first_of tests has missing keep next under names_of limit limits_by_kind parts parts_by_kind
up = refl

-- down: direct made wide, without room, narrow already, and no word; then a name over 31 in a word of kind 19, and in one of kind 2
-- before it; name 31; and a name that no wide table has
pub down : (
    convert_answer false (widened direct) 5
    ∷ convert_answer false (widened direct) 4
    ∷ convert_answer false direct 5
    ∷ convert_answer false [] 5
    ∷ convert_answer false (alone 5 31 (word_of 19 32 ∷ [])) 5
    ∷ convert_answer false (alone 5 32 (word_of 19 32 ∷ [])) 0
    ∷ convert_answer false (alone 5 31 (word_of 19 31 ∷ [])) 5
    ∷ convert_answer false (alone 5 64 (word_of 19 32 ∷ [])) 0
    ∷ [])
    ≡ (written 5 ∷ refusal 57 0 ∷ refusal 1 0 ∷ refusal 1 0 ∷ refusal 56 4 ∷ refusal 56 1 ∷ written 5 ∷ refusal 5 1 ∷ [])
unfolding direct convert_answer answer convertible narrowable fits_narrow names_fit wide_name read_as rekinded reading scan fault first_of tests has missing keep next under names_of limit limits_by_kind parts parts_by_kind
down = refl

-- 33 handlers, and 32
pub many : (convert_answer false (word_of 5 33 ∷ handlers 33) 0 ∷ convert_answer false (word_of 5 32 ∷ handlers 32) 129 ∷ [])
    ≡ (refusal 55 0 ∷ written 129 ∷ [])
unfolding handlers convert_answer answer convertible narrowable fits_narrow names_fit wide_name read_as rekinded reading scan fault first_of tests has missing keep next under names_of limit limits_by_kind parts parts_by_kind
many = refl
