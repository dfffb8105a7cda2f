-- The report on some streams, computed from the definitions: the wish's own example first.
use Prim.Native.Nat.{ℕ}
use mathlib.Core.Path.{◌≡◌, refl}
use mathlib.Core.List.{List, [], ◌∷◌, ◌++◌, map}
use lib.Count.{ones_in}
use Rattle.permset.specs.Sets.{within, member, union, difference, lowest}
use Rattle.table.specs.Words.{parts_by_kind, limits_by_kind, parts, arity, limit, constant_number, constant_of, operation_of, terms_by_kind, term_of, names_of}
use Rattle.table.specs.Scan.{first_of, has, tests, fault, missing, keep, under, next, scan, reading}
use Rattle.table.specs.Code.{code, skip, part, trace, tasks, task_at, term_node, node_for, scope_for, home_for, blocks_from}
use Rattle.delivery.specs.Delivery.{judged, delivered}
use Rattle.calculus.specs.Elements.{constant_element, sign, is_string, leaf_makes, one_makes, makes, is_function, is_record, is_cell, making}
use Rattle.calculus.specs.Elements.{sendable, any_record, is_sign, sign_place, sum_signs, less_signs, by_signs, comparable, is_many, equal_results, results}
use Rattle.calculus.specs.Constraint.{range}
use Rattle.calculus.specs.Rules.{name_of, perms_of, guarded, is_block, permissions, delivery_to, leaf_rule, one_rule, two_rule, flow, entry}
use Rattle.calculus.specs.Rules.{two_sender, sender, senders, rule}
use Rattle.calculus.specs.Layout.{row_words, estimate_words}
use Rattle.little_endian.specs.LittleEndian.{words_of, bytes_of}
use Rattle.fingerprint.specs.Fnv.{step, hash_from, fnv1a}
use Rattle.text.specs.Text.{bytes, decimal, set, hex_word}
use Rattle.report.specs.Lines.{refusal_line}
use Rattle.class_report.specs.Stream.{number}
use Rattle.class_report.specs.Report.{report}

abbrev streams : List (List ℕ)
streams =
    -- a system of length 0 with ρ 0, alone; no system
    bytes_of (0 ∷ 0 ∷ [])
    ∷ []
    -- direct
    ∷ bytes_of (5 ∷ 0 ∷ 0x01000001 ∷ 0x02000000 ∷ 0x03000003 ∷ 0x04000000 ∷ 0x24000002 ∷ [])
    -- the same with bits above 23 in ρ, then a byte more
    ∷ (bytes_of (5 ∷ 0x1000000 ∷ 0x01000001 ∷ 0x02000000 ∷ 0x03000003 ∷ 0x04000000 ∷ 0x24000002 ∷ []) ++ 0 ∷ [])
    -- a length over 256, after a system; three of its four bytes; a word less than the length says
    ∷ bytes_of (0 ∷ 0 ∷ 257 ∷ [])
    ∷ (1 ∷ 1 ∷ 0 ∷ [])
    ∷ bytes_of (256 ∷ 0 ∷ 0x01000000 ∷ [])
    ∷ []

pub samples-reported :
    map report streams
    ≡ (bytes "0 811c9dc5 refused 1 at 0\naccepted 0 refused 1\n"
    ++ bytes "permission 0 leaks 0 of 0\npermission 1 leaks 0 of 0\npermission 2 leaks 0 of 0\npermission 3 leaks 0 of 0\n"
    ++ bytes "permission 4 leaks 0 of 0\npermission 5 leaks 0 of 0\npermission 6 leaks 0 of 0\npermission 7 leaks 0 of 0\n"
    ++ bytes "permission 8 leaks 0 of 0\npermission 9 leaks 0 of 0\npermission 10 leaks 0 of 0\npermission 11 leaks 0 of 0\n"
    ++ bytes "permission 12 leaks 0 of 0\npermission 13 leaks 0 of 0\npermission 14 leaks 0 of 0\npermission 15 leaks 0 of 0\n"
    ++ bytes "permission 16 leaks 0 of 0\npermission 17 leaks 0 of 0\npermission 18 leaks 0 of 0\npermission 19 leaks 0 of 0\n"
    ++ bytes "permission 20 leaks 0 of 0\npermission 21 leaks 0 of 0\npermission 22 leaks 0 of 0\npermission 23 leaks 0 of 0\n")
    ∷ (bytes "accepted 0 refused 0\n"
    ++ bytes "permission 0 leaks 0 of 0\npermission 1 leaks 0 of 0\npermission 2 leaks 0 of 0\npermission 3 leaks 0 of 0\n"
    ++ bytes "permission 4 leaks 0 of 0\npermission 5 leaks 0 of 0\npermission 6 leaks 0 of 0\npermission 7 leaks 0 of 0\n"
    ++ bytes "permission 8 leaks 0 of 0\npermission 9 leaks 0 of 0\npermission 10 leaks 0 of 0\npermission 11 leaks 0 of 0\n"
    ++ bytes "permission 12 leaks 0 of 0\npermission 13 leaks 0 of 0\npermission 14 leaks 0 of 0\npermission 15 leaks 0 of 0\n"
    ++ bytes "permission 16 leaks 0 of 0\npermission 17 leaks 0 of 0\npermission 18 leaks 0 of 0\npermission 19 leaks 0 of 0\n"
    ++ bytes "permission 20 leaks 0 of 0\npermission 21 leaks 0 of 0\npermission 22 leaks 0 of 0\npermission 23 leaks 0 of 0\n")
    ∷ (bytes "0 6b7101d9 leak 000002\naccepted 1 refused 0\n"
    ++ bytes "permission 0 leaks 0 of 1\npermission 1 leaks 1 of 1\npermission 2 leaks 0 of 1\npermission 3 leaks 0 of 1\n"
    ++ bytes "permission 4 leaks 0 of 1\npermission 5 leaks 0 of 1\npermission 6 leaks 0 of 1\npermission 7 leaks 0 of 1\n"
    ++ bytes "permission 8 leaks 0 of 1\npermission 9 leaks 0 of 1\npermission 10 leaks 0 of 1\npermission 11 leaks 0 of 1\n"
    ++ bytes "permission 12 leaks 0 of 1\npermission 13 leaks 0 of 1\npermission 14 leaks 0 of 1\npermission 15 leaks 0 of 1\n"
    ++ bytes "permission 16 leaks 0 of 1\npermission 17 leaks 0 of 1\npermission 18 leaks 0 of 1\npermission 19 leaks 0 of 1\n"
    ++ bytes "permission 20 leaks 0 of 1\npermission 21 leaks 0 of 1\npermission 22 leaks 0 of 1\npermission 23 leaks 0 of 1\n")
    ∷ bytes "0 6b7101d9 refused 20 at 0\nrefused 58 at 1\n"
    ∷ bytes "0 811c9dc5 refused 1 at 0\nrefused 59 at 1\n"
    ∷ bytes "refused 58 at 0\n"
    ∷ bytes "refused 58 at 0\n"
    ∷ []
unfolding ones_in parts_by_kind limits_by_kind parts arity limit constant_number constant_of operation_of terms_by_kind term_of names_of first_of has tests
    fault missing keep under next scan reading code skip part trace tasks task_at term_node node_for scope_for home_for blocks_from within member union
    difference lowest constant_element sign is_string leaf_makes one_makes makes is_function is_record is_cell making sendable any_record is_sign sign_place
    sum_signs less_signs by_signs comparable is_many equal_results results range name_of perms_of guarded is_block permissions delivery_to judged delivered leaf_rule one_rule two_rule
    flow entry two_sender sender senders rule row_words estimate_words words_of bytes_of step hash_from fnv1a decimal set hex_word refusal_line number report
samples-reported = refl
