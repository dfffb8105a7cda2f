-- The answer to some estimates, computed from the definitions. Of *direct*: its own passes; a word less or more is 52; the flag of word 4, unit in C(4),
-- the permissions of the block and the opponent in C(1) are each missed at the word whose rule asks for them; a bit more is 53 where it is stray, and
-- is allowed where it is not. Of *relay*: its own passes; without the sender in the receiver's C(7) it is 54 at 7.
use Prim.Native.Nat.{ℕ, ◌-◌, ◌^◌}
use mathlib.Core.Path.{◌≡◌, refl}
use mathlib.Core.List.{List, [], ◌∷◌, ◌++◌, map}
use lib.Count.{ones_in}
use lib.ListN.{set, take, get_or}
use Rattle.permset.specs.Sets.{within, member, union, difference, lowest}
use Rattle.delivery.specs.Delivery.{judged as delivery_judged, delivered}
use Rattle.table.specs.Words.{parts_by_kind, limits_by_kind, parts, arity, limit, constant_number, constant_of, operation_of, terms_by_kind, term_of, names_of}
use Rattle.table.specs.Scan.{first_of, has, tests, fault, missing, keep, under, next, scan, reading}
use Rattle.table.specs.Code.{code, skip, part, trace, tasks, task_at, term_node, node_for, scope_for, home_for, blocks_from}
use Rattle.calculus.specs.Elements.{constant_element, sign, is_string, leaf_makes, one_makes, makes, is_function, is_record, is_cell, making, sendable, any_record}
use Rattle.calculus.specs.Constraint.{range}
use Rattle.calculus.specs.Rules.{name_of, perms_of, guarded, is_block, permissions, delivery_to, leaf_rule, one_rule, two_rule, flow, entry}
use Rattle.calculus.specs.Rules.{two_sender, sender, senders, rule}
use Rattle.calculus.specs.Layout.{row_words, estimate_words, used}
use Rattle.calculus.specs.Estimate.{any_from, estimate, leak}
use Rattle.calculus.specs.Samples.{single, relay}
use Rattle.stray.specs.Stray.{names, of_block, holding, holds, proper, stray, stray_from, first_stray}
use Rattle.checker.specs.Obeyed.{all_of, first_from, obeys as obeys_rule, first_broken}
use Rattle.audit.specs.Audited.{refused, obeys, ruled, swept, sized, judged, audited}

abbrev direct : List ℕ
direct = single 0 (0x24000002 ∷ [])

abbrev own : List ℕ → List ℕ
own ws = estimate (code ws) 0

-- with 2^d more, or less, in word k
abbrev more : List ℕ → ℕ → ℕ → List ℕ
more ws k d = set (own ws) k (union (get_or (own ws) k 0) (2 ^ d))

abbrev less : List ℕ → ℕ → ℕ → List ℕ
less ws k d = set (own ws) k (get_or (own ws) k 0 - 2 ^ d)

pub samples-audited :
    (map (audited direct 0)
    (own direct ∷ take 34 (own direct) ∷ (own direct ++ 0 ∷ []) ∷ less direct 34 24 ∷ less direct 24 1 ∷ less direct 31 1 ∷ less direct 6 7
    ∷ more direct 26 4 ∷ more direct 34 25 ∷ more direct 8 1 ∷ more direct 31 0 ∷ [])
    ++ map (audited (relay 8 0) 0) (own (relay 8 0) ∷ less (relay 8 0) 44 1 ∷ []))
    ≡ obeys 2 ∷ refused 52 0 ∷ refused 52 0 ∷ refused 54 1 ∷ refused 54 4 ∷ refused 54 1 ∷ refused 54 1
    ∷ refused 53 26 ∷ refused 53 34 ∷ obeys 2 ∷ obeys 3
    ∷ obeys 2 ∷ refused 54 7 ∷ []
unfolding ones_in parts_by_kind limits_by_kind parts arity limit constant_number constant_of operation_of terms_by_kind term_of names_of first_of has tests
    fault missing keep under next scan reading code skip part trace tasks task_at term_node node_for scope_for home_for blocks_from within member union
    difference lowest constant_element sign is_string leaf_makes one_makes makes is_function is_record is_cell making sendable any_record range name_of perms_of
    guarded is_block permissions delivery_to delivery_judged delivered leaf_rule one_rule two_rule flow entry two_sender sender senders rule row_words
    estimate_words used any_from estimate leak names of_block holding holds proper stray stray_from first_stray all_of first_from obeys_rule first_broken
    ruled swept sized judged audited
samples-audited = refl
