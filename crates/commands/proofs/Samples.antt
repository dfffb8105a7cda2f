-- What `check` prints of small listings, computed: accepted, out of range, wrong spaces, no line feed, no keyword, too short, empty.
use Prim.Native.Nat.{ℕ}
use mathlib.Core.Path.{◌≡◌, refl}
use mathlib.Core.List.{List, [], ◌∷◌, ◌++◌, map}
use Rattle.table.specs.Words.{parts, parts_by_kind, limit, limits_by_kind, names_of}
use Rattle.table.specs.Scan.{next, first_of, has, tests, fault, missing, keep, under, scan, reading, narrow_reading}
use Rattle.table.specs.Code.{tasks, trace}
use Rattle.text.specs.Text.{bytes, numeral, digits, glyph, set, decimal}
use Rattle.listing.specs.Keywords.{entries, entry_of, used}
use Rattle.listing.specs.Spelling.{spelled, line_of, spelled_argument, signed_decimal, line_word, guessed_kind, kind_from, prefix, guessed, guessed_argument, folded, same, spells}
use Rattle.listing.specs.Listing.{listing, depths, depth_of, lines, tested, written, read_as, cut, onto, indent, indents, word_in, words_of, misspelled, misplaced, placed, tabled, spelt}
use Rattle.listing.specs.Decoding.{line_size}
use Rattle.report.specs.Lines.{refusal_line}
use Rattle.commands.specs.Meanings.{from_line, line_at, position, numbers, page, meaning, sentence}
use Rattle.commands.specs.Checked.{first_line, labelled, shown_line, right_line, wrong_line, checked_text, check_text}
use Rattle.commands.specs.Checked as checked

-- a system of one handler with this body
abbrev with : List ℕ → List ℕ
with body = bytes "system 1\nhandler 0\npermissions 000000\nguard 000000\n" ++ body

abbrev texts : List (List ℕ)
texts =
    with (bytes "  variable 0\n")
    ∷ with (bytes "  variable 1\n")
    ∷ with (bytes "variable 0\n")
    ∷ with (bytes "  variable 0")
    ∷ with (bytes "  apply\n    unit\n")
    ∷ with []
    ∷ []
    ∷ []

abbrev spelling : List ℕ
spelling = bytes "The line is not how a word is written, or does not start with two spaces for each depth.\n"

pub checks :
    map check_text texts
    ≡ bytes "accepted 5\n"
    ∷ bytes "refused 10 at 4\nline 5:   variable 1\nThe variable has no binder: 0 is the innermost one.\n"
    ∷ (bytes "refused 40 at 5\nline 5: variable 0\nright, line 5:   variable 0\n" ++ spelling)
    ∷ (bytes "refused 40 at 5\nline 5:   variable 0\n" ++ spelling)
    ∷ (bytes "refused 40 at 6\nline 6:     unit\n" ++ spelling)
    ∷ bytes "refused 8 at 4\nThe system ends where a term is still needed.\n"
    ∷ bytes "refused 1 at 0\nThe system is empty, or its first word is not `system`.\n"
    ∷ []
unfolding read_as spelt tabled placed misplaced misspelled words_of indents word_in indent cut onto tested depths depth_of tasks trace narrow_reading reading names_of scan next first_of has tests fault missing keep under parts parts_by_kind limit limits_by_kind line_word guessed_kind kind_from used prefix entries entry_of guessed guessed_argument folded same spells spelled line_of spelled_argument signed_decimal set decimal numeral digits glyph check_text checked_text written listing lines line_size refusal_line from_line line_at position numbers page meaning sentence first_line labelled shown_line right_line wrong_line checked.line_of
checks = refl
