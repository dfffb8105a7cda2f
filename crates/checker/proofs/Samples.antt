-- The lowest broken word of the table of *direct*, computed from the definitions: of its least estimate, of an estimate with no facts,
-- where unit is missing in C(4), and where the permissions of word 4 are missing in P(1).
use Prim.Native.Nat.{ℕ, ◌^◌}
use mathlib.Core.Path.{◌≡◌, refl}
use mathlib.Core.List.{List, [], ◌∷◌, map}
use lib.ListN.{replicate, set}
use Rattle.permset.specs.Sets.{within, member}
use Rattle.table.specs.Words.{names_of, parts_by_kind, limits_by_kind, parts, arity, limit, constant_number, constant_of, operation_of, terms_by_kind, term_of}
use Rattle.table.specs.Scan.{first_of, has, tests, fault, missing, keep, under, next}
use Rattle.table.specs.Code.{Code, code, skip, part, trace, tasks, task_at, term_node, node_for, scope_for, home_for, blocks_from}
use Rattle.delivery.specs.Delivery.{judged, delivered}
use Rattle.calculus.specs.Elements.{constant_element, sign}
use Rattle.calculus.specs.Constraint.{range}
use Rattle.calculus.specs.Rules.{name_of, perms_of, guarded, is_block, permissions, delivery_to, leaf_rule, one_rule, two_rule, flow, entry}
use Rattle.calculus.specs.Rules.{two_sender, sender, senders, rule}
use Rattle.calculus.specs.Layout.{row_words, estimate_words}
use Rattle.calculus.specs.Estimate.{estimate}
use Rattle.checker.specs.Obeyed.{first_broken}

abbrev direct : Code
direct = code (0x01000001 ∷ 0x02000000 ∷ 0x03000003 ∷ 0x04000000 ∷ 0x24000002 ∷ [])

abbrev least : List ℕ
least = estimate direct 0

pub samples-broken :
    map (first_broken direct 0) (least ∷ replicate 35 0 ∷ set least 24 0 ∷ set least 31 (2 ^ 24) ∷ []) ≡ 5 ∷ 1 ∷ 4 ∷ 1 ∷ []
unfolding names_of parts_by_kind limits_by_kind parts arity limit constant_number constant_of operation_of terms_by_kind term_of first_of has tests
    fault missing keep under next code skip part trace tasks task_at term_node node_for scope_for home_for blocks_from within member
    constant_element sign range name_of perms_of guarded is_block permissions delivery_to judged delivered leaf_rule one_rule two_rule
    flow entry two_sender sender senders rule row_words estimate_words estimate first_broken
samples-broken = refl
