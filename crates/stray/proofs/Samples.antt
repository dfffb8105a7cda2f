-- The first word with a stray bit, computed from the definitions, for estimates of *direct* and of a function that is applied: the least ones have
-- none (35 and 56 words); then one bit more in C(4), C(1), B(1), P(0) and past the last element.
use Prim.Native.Nat.{ℕ, ◌^◌}
use mathlib.Core.Path.{◌≡◌, refl}
use mathlib.Core.List.{List, [], ◌∷◌, ◌++◌, map}
use lib.ListN.{set}
use Rattle.permset.specs.Sets.{within, member}
use Rattle.table.specs.Words.{parts_by_kind, limits_by_kind, parts, arity, limit, constant_number, constant_of, operation_of, terms_by_kind, term_of, names_of}
use Rattle.table.specs.Scan.{first_of, has, tests, fault, missing, keep, under, next}
use Rattle.table.specs.Code.{Code, code, skip, part, trace, tasks, task_at, term_node, node_for, scope_for, home_for, blocks_from}
use Rattle.delivery.specs.Delivery.{judged, delivered}
use Rattle.calculus.specs.Elements.{constant_element, sign, leaf_makes, one_makes, makes, is_function, is_record, is_cell}
use Rattle.calculus.specs.Constraint.{range}
use Rattle.calculus.specs.Rules.{name_of, perms_of, guarded, is_block, permissions, delivery_to, leaf_rule, one_rule, two_rule, flow, entry}
use Rattle.calculus.specs.Rules.{two_sender, sender, senders, rule}
use Rattle.calculus.specs.Layout.{row_words, estimate_words, used}
use Rattle.calculus.specs.Estimate.{any_from, estimate}
use Rattle.stray.specs.Stray.{names, of_block, holding, holds, proper, stray, stray_from, first_stray}

abbrev direct : Code
direct = code (0x01000001 ∷ 0x02000000 ∷ 0x03000003 ∷ 0x04000000 ∷ 0x24000002 ∷ [])

abbrev applied : Code
applied = code (0x01000001 ∷ 0x02000000 ∷ 0x03000003 ∷ 0x04000000 ∷ 0x16000000 ∷ 0x15000000 ∷ 0x24000001 ∷ 0x10000000 ∷ [])

-- the least estimate with one word set
abbrev with_word : Code → ℕ → ℕ → List ℕ
with_word c k w = set (estimate c 0) k w

-- an exercise is nothing that C(4) may hold, and there is no element 69; C(1) may hold its own block, and B(1) may not; bits 24 and 25 of P(0).
-- The function at 5 may stand in any row but C(1).
pub samples-stray :
    (map (first_stray direct)
    (estimate direct 0 ∷ with_word direct 26 (2 ^ 4) ∷ with_word direct 26 (2 ^ 5) ∷ with_word direct 8 2 ∷ with_word direct 11 2 ∷ with_word direct 8 (2 ^ 4)
    ∷ with_word direct 30 (2 ^ 24) ∷ with_word direct 30 (2 ^ 25) ∷ [])
    ++ map (first_stray applied) (estimate applied 0 ∷ with_word applied 2 (2 ^ 5) ∷ with_word applied 11 (2 ^ 5) ∷ with_word applied 8 (2 ^ 5) ∷ []))
    ≡ 35 ∷ 26 ∷ 26 ∷ 35 ∷ 11 ∷ 8 ∷ 35 ∷ 30 ∷ 56 ∷ 56 ∷ 56 ∷ 8 ∷ []
unfolding parts_by_kind limits_by_kind parts arity limit constant_number constant_of operation_of terms_by_kind term_of names_of first_of has tests
    fault missing keep under next code skip part trace tasks task_at term_node node_for scope_for home_for blocks_from within member
    constant_element sign leaf_makes one_makes makes is_function is_record is_cell range name_of perms_of guarded is_block permissions delivery_to judged
    delivered leaf_rule one_rule two_rule flow entry two_sender sender senders rule row_words estimate_words used any_from estimate names of_block holding
    holds proper stray stray_from first_stray
samples-stray = refl
