-- What `leak` prints of *direct*, computed: without a bound and a ceiling, at and over the ceiling, refused, and with a wrong argument.
use Prim.Native.Nat.{ℕ}
use mathlib.Core.Path.{◌≡◌, refl}
use mathlib.Core.List.{List, [], ◌∷◌, ◌++◌}
use lib.Count.{ones_in}
use Rattle.permset.specs.Sets.{within, member, union, difference, lowest}
use Rattle.table.specs.Words.{parts_by_kind, limits_by_kind, parts, arity, limit, constant_number, constant_of, operation_of, terms_by_kind, term_of, names_of}
use Rattle.table.specs.Scan.{first_of, has, tests, fault, missing, keep, under, next, scan, reading, narrow_reading}
use Rattle.table.specs.Code.{code, skip, part, trace, tasks, task_at, term_node, node_for, scope_for, home_for, blocks_from}
use Rattle.delivery.specs.Delivery.{judged, delivered}
use Rattle.calculus.specs.Elements.{constant_element, sign, is_string, leaf_makes, one_makes, makes, is_function, is_record, is_cell, making}
use Rattle.calculus.specs.Elements.{sendable, any_record, is_sign, sign_place, sum_signs, less_signs, by_signs, comparable, is_many, equal_results, results}
use Rattle.calculus.specs.Constraint.{range}
use Rattle.calculus.specs.Rules.{name_of, perms_of, guarded, is_block, permissions, delivery_to, leaf_rule, one_rule, two_rule, flow, entry}
use Rattle.calculus.specs.Rules.{two_sender, sender, senders, rule}
use Rattle.calculus.specs.Layout.{row_words, estimate_words}
use Rattle.report.specs.Lines.{refusal_line, verdict_line, handler_line}
use Rattle.text.specs.Text.{bytes, decimal, set, numeral, digits, glyph}
use Rattle.listing.specs.Keywords.{entries, entry_of, used}
use Rattle.listing.specs.Spelling.{spelled, line_of, spelled_argument, signed_decimal, line_word, guessed_kind, kind_from, prefix, guessed, guessed_argument, folded, same, spells}
use Rattle.listing.specs.Listing.{tested, read_as, cut, onto, indent, indents, word_in, words_of, misspelled, misplaced, placed, tabled, spelt, depths, depth_of}
use Rattle.calculus.specs.Answer.{answer}
use Rattle.solver.specs.Ceiling as ceiling
use Rattle.commands.specs.Arguments as arguments
use Rattle.commands.specs.Meanings.{help}
use Rattle.commands.specs.Printed as printed
use Rattle.printout.specs.Program.{answer_text, unless_wide, handler_lines}
use Rattle.leaks.specs.Leak.{system_leak, listing_leak, value_or, given, values_text, leak_text}

abbrev direct : List ℕ
direct = bytes "system 1\nhandler 0\npermissions 000003\nguard 000000\n  exercise 000002\n"

abbrev told : List ℕ
told = bytes "leak 000002 bound 000000 verdict over first 1 facts 70\n" ++ bytes "handler 0 name 0 entry yes live yes set 000002\n"

pub leaks :
    (leak_text (bytes "0") [] [] direct
    ∷ leak_text (bytes "0") (bytes "0") (bytes "70") direct
    ∷ leak_text (bytes "0") (bytes "0") (bytes "69") direct
    ∷ leak_text (bytes "1000000") [] (bytes "0") direct
    ∷ leak_text (bytes "0") [] [] (bytes "system 1")
    ∷ leak_text [] [] [] direct
    ∷ leak_text (bytes "0") (bytes "g") [] direct
    ∷ leak_text (bytes "0") (bytes "0") (bytes "a") direct
    ∷ [])
    ≡ told
    ∷ told
    ∷ bytes "refused 23 at 69\n"
    ∷ bytes "refused 20 at 0\n"
    ∷ bytes "refused 40 at 1\n"
    ∷ help
    ∷ help
    ∷ help
    ∷ []
unfolding answer ones_in parts_by_kind limits_by_kind parts arity limit constant_number constant_of operation_of terms_by_kind term_of names_of first_of has tests fault missing keep under next scan reading narrow_reading code skip part trace tasks task_at term_node node_for scope_for home_for blocks_from within member union difference lowest constant_element sign is_string leaf_makes one_makes makes is_function is_record is_cell making sendable any_record is_sign sign_place sum_signs less_signs by_signs comparable is_many equal_results results range name_of perms_of guarded is_block permissions delivery_to judged delivered leaf_rule one_rule two_rule flow entry two_sender sender senders rule row_words estimate_words decimal set refusal_line verdict_line handler_line numeral digits glyph entries entry_of used spelled line_of spelled_argument signed_decimal line_word guessed_kind kind_from prefix guessed guessed_argument folded same spells tested read_as cut onto indent indents word_in words_of misspelled misplaced placed tabled spelt depths depth_of ceiling.under arguments.digit arguments.folded arguments.value_of printed.answer_text answer_text unless_wide handler_lines system_leak listing_leak value_or given values_text
leaks = refl
