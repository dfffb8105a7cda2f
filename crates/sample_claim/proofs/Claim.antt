-- The claim over the samples: each gives what document 01 says, computed from the definitions.
use lib.Dec.{T}
use lib.Count.{ones_in}
use Rattle.permset.specs.Sets.{within, member, union, difference, lowest}
use Rattle.delivery.specs.Delivery.{judged, delivered}
use Rattle.table.specs.Words.{names_of, parts_by_kind, limits_by_kind, parts, arity, limit, constant_number, constant_of, operation_of, terms_by_kind, term_of}
use Rattle.table.specs.Scan.{first_of, has, tests, fault, missing, keep, under, next, scan, reading}
use Rattle.table.specs.Code.{code, skip, part, trace, tasks, task_at, term_node, node_for, scope_for, home_for, blocks_from}
use Rattle.calculus.specs.Elements.{constant_element, sign, is_string, leaf_makes, one_makes, makes, is_function, is_record, is_cell, making}
use Rattle.calculus.specs.Elements.{sendable, any_record, is_sign, sign_place, sum_signs, less_signs, by_signs, comparable, is_many}
use Rattle.calculus.specs.Elements.{equal_results, results}
use Rattle.calculus.specs.Constraint.{range}
use Rattle.calculus.specs.Rules.{name_of, perms_of, guarded, is_block, permissions, delivery_to, leaf_rule, one_rule, two_rule, flow, entry}
use Rattle.calculus.specs.Rules.{two_sender, sender, senders, rule}
use Rattle.calculus.specs.Layout.{row_words, estimate_words}
use Rattle.calculus.specs.Samples.{passes, samples}

pub samples-pass : T (passes samples)
unfolding ones_in names_of parts_by_kind limits_by_kind parts arity limit constant_number constant_of operation_of terms_by_kind term_of first_of has tests
    fault missing keep under next scan reading code skip part trace tasks task_at term_node node_for scope_for home_for blocks_from within member union
    difference lowest constant_element sign is_string leaf_makes one_makes makes is_function is_record is_cell making sendable any_record is_sign sign_place
    sum_signs less_signs by_signs comparable is_many equal_results results range name_of perms_of guarded is_block permissions delivery_to judged delivered leaf_rule one_rule two_rule
    flow entry two_sender sender senders rule row_words estimate_words passes samples
samples-pass = tt
