-- Answers of the C interface, computed from the definitions: direct within and over its bound, a table's refusal, a short slice, an odd
-- byte, too many bytes.
use Prim.Native.Nat.{ℕ, ◌+◌, ◌*◌, ◌^◌}
use mathlib.Core.Path.{◌≡◌, refl}
use mathlib.Core.List.{List, [], ◌∷◌, map}
use lib.ListN.{replicate}
use lib.Count.{ones_in}
use Rattle.permset.specs.Sets.{within, member, union, difference, lowest}
use Rattle.table.specs.Words.{names_of, parts_by_kind, limits_by_kind, parts, arity, limit, constant_number, constant_of, operation_of, terms_by_kind, term_of}
use Rattle.table.specs.Scan.{first_of, has, tests, fault, missing, keep, under, next, scan, reading}
use Rattle.table.specs.Code.{code, skip, part, trace, tasks, task_at, term_node, node_for, scope_for, home_for, blocks_from}
use Rattle.delivery.specs.Delivery.{judged, delivered}
use Rattle.calculus.specs.Elements.{constant_element, sign, is_string, leaf_makes, one_makes, makes, is_function, is_record, is_cell, making}
use Rattle.calculus.specs.Elements.{sendable, any_record, is_sign, sign_place, sum_signs, less_signs, by_signs, comparable, is_many, equal_results, results}
use Rattle.calculus.specs.Constraint.{range}
use Rattle.calculus.specs.Rules.{name_of, perms_of, guarded, is_block, permissions, delivery_to, leaf_rule, one_rule, two_rule, flow, entry}
use Rattle.calculus.specs.Rules.{two_sender, sender, senders, rule}
use Rattle.calculus.specs.Layout.{row_words, estimate_words}
use Rattle.calculus.specs.Answer.{Answer, answer}
use Rattle.little_endian.specs.LittleEndian.{words_of, bytes_of}
use Rattle.capi.specs.Interface.{bytes_answer}
use Rattle.interface.specs.Numbers.{answer_number}

-- one handler with permissions 0 and 1, and this body
abbrev single : ℕ → List ℕ
single body = bytes_of (0x01000001 ∷ 0x02000000 ∷ 0x03000003 ∷ 0x04000000 ∷ body ∷ [])

abbrev answers : List Answer
answers =
    bytes_answer (single 0x24000002) 0 2 143 83
    ∷ bytes_answer (single 0x24000002) 0 0 143 83
    ∷ bytes_answer (single 0x14000001) 0 0 0 0
    ∷ bytes_answer (single 0x24000002) 0 0 139 83
    ∷ bytes_answer (0 ∷ single 0x24000002) 0 0 143 83
    ∷ bytes_answer (replicate 1025 0) 0 0 0 0
    ∷ []

pub samples-answered :
    map answer_number answers
    ≡ 2
    ∷ (2 + 2 ^ 24)
    ∷ (2 ^ 32 + 10 * 65536 + 4)
    ∷ (2 ^ 32 + 21 * 65536)
    ∷ (2 ^ 32 + 30 * 65536)
    ∷ (2 ^ 32 + 31 * 65536)
    ∷ []
unfolding ones_in names_of parts_by_kind limits_by_kind parts arity limit constant_number constant_of operation_of terms_by_kind term_of first_of has tests
    fault missing keep under next scan reading code skip part trace tasks task_at term_node node_for scope_for home_for blocks_from within member union
    difference lowest constant_element sign is_string leaf_makes one_makes makes is_function is_record is_cell making sendable any_record is_sign sign_place
    sum_signs less_signs by_signs comparable is_many equal_results results range name_of perms_of guarded is_block permissions delivery_to judged delivered leaf_rule one_rule two_rule
    flow entry two_sender sender senders rule row_words estimate_words words_of bytes_of answer answer_number bytes_answer
samples-answered = refl
