-- What the program prints for some inputs, computed from the definitions: document 01's example first.
use Prim.Native.Nat.{ℕ}
use mathlib.Core.Path.{◌≡◌, refl}
use mathlib.Core.List.{List, [], ◌∷◌, ◌++◌, map}
use lib.ListN.{replicate}
use lib.Count.{ones_in}
use Rattle.permset.specs.Sets.{within, member, union, difference, lowest}
use Rattle.table.specs.Words.{names_of, parts_by_kind, limits_by_kind, parts, arity, limit, constant_number, constant_of, operation_of, terms_by_kind, term_of}
use Rattle.table.specs.Scan.{first_of, has, tests, fault, missing, keep, under, next, scan, reading}
use Rattle.table.specs.Code.{code, skip, part, trace, tasks, task_at, term_node, node_for, scope_for, home_for, blocks_from}
use Rattle.delivery.specs.Delivery.{judged, delivered}
use Rattle.calculus.specs.Elements.{constant_element, sign, is_string, leaf_makes, one_makes, makes, is_function, is_record, is_cell, making}
use Rattle.calculus.specs.Elements.{sendable, any_record, is_sign, sign_place, sum_signs, less_signs, by_signs, comparable, is_many, equal_results, results}
use Rattle.calculus.specs.Constraint.{range}
use Rattle.calculus.specs.Rules.{name_of, perms_of, guarded, is_block, permissions, delivery_to, leaf_rule, one_rule, two_rule, flow, entry}
use Rattle.calculus.specs.Rules.{two_sender, sender, senders, rule}
use Rattle.calculus.specs.Layout.{row_words, estimate_words}
use Rattle.little_endian.specs.LittleEndian.{words_of, bytes_of}
use Rattle.text.specs.Text.{bytes, decimal, set}
use Rattle.report.specs.Lines.{refusal_line, verdict_line, handler_line}
use Rattle.printout.specs.Program.{printed}

abbrev inputs : List (List ℕ)
inputs =
    -- ρ 0, bound 0 and relay
    bytes_of
    (0 ∷ 0 ∷ 0x01000002 ∷ 0x02000000 ∷ 0x03000008 ∷ 0x04000000 ∷ 0x23000000 ∷ 0x13000001 ∷ 0x14000000 ∷ 0x02000001 ∷ 0x03000002
    ∷ 0x04000008 ∷ 0x24000002 ∷ [])
    -- direct, its leak the bound
    ∷ bytes_of (0 ∷ 2 ∷ 0x01000001 ∷ 0x02000000 ∷ 0x03000003 ∷ 0x04000000 ∷ 0x24000002 ∷ [])
    -- direct with ρ 2 and the standing bound
    ∷ bytes_of (2 ∷ 0x80000000 ∷ 0x01000001 ∷ 0x02000000 ∷ 0x03000003 ∷ 0x04000000 ∷ 0x24000002 ∷ [])
    -- a variable without binder; no system; too few bytes, an odd one, and too many
    ∷ bytes_of (0 ∷ 0 ∷ 0x01000001 ∷ 0x02000000 ∷ 0x03000003 ∷ 0x04000000 ∷ 0x14000001 ∷ [])
    ∷ replicate 8 0
    ∷ replicate 4 0
    ∷ replicate 9 0
    ∷ replicate 1036 0
    -- a wide table
    ∷ bytes_of (0 ∷ 0 ∷ 0x05000000 ∷ [])
    ∷ []

pub samples-printed :
    map printed inputs
    ≡ (bytes "leak 000002 bound 000000 verdict over first 1 facts 207\n"
    ++ bytes "handler 0 name 0 entry yes live yes set 000002\n"
    ++ bytes "handler 1 name 1 entry no live yes set 000002\n")
    ∷ (bytes "leak 000002 bound 000002 verdict within first - facts 70\n" ++ bytes "handler 0 name 0 entry yes live yes set 000002\n")
    ∷ (bytes "leak 000002 bound 000000 verdict over first 1 facts 70\n" ++ bytes "handler 0 name 0 entry yes live yes set 000002\n")
    ∷ bytes "refused 10 at 4\n"
    ∷ bytes "refused 1 at 0\n"
    ∷ bytes "refused 30 at 0\n"
    ∷ bytes "refused 30 at 0\n"
    ∷ bytes "refused 31 at 0\n"
    ∷ bytes "refused 1 at 0\n"
    ∷ []
unfolding ones_in names_of parts_by_kind limits_by_kind parts arity limit constant_number constant_of operation_of terms_by_kind term_of first_of has tests
    fault missing keep under next scan reading code skip part trace tasks task_at term_node node_for scope_for home_for blocks_from within member union
    difference lowest constant_element sign is_string leaf_makes one_makes makes is_function is_record is_cell making sendable any_record is_sign sign_place
    sum_signs less_signs by_signs comparable is_many equal_results results range name_of perms_of guarded is_block permissions delivery_to judged delivered leaf_rule one_rule two_rule
    flow entry two_sender sender senders rule row_words estimate_words words_of bytes_of decimal set refusal_line verdict_line handler_line printed
samples-printed = refl
