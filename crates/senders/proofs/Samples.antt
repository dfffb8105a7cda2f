-- The text of document 01's samples and of two systems more, computed from the definitions: the least estimate, and what is read from it.
use Prim.Native.Nat.{ℕ}
use mathlib.Core.Path.{◌≡◌, refl}
use mathlib.Core.List.{List, [], ◌∷◌, ◌++◌}
use Rattle.permset.specs.Sets.{within, member, union, difference, lowest}
use Rattle.table.specs.Words.{parts_by_kind, limits_by_kind, parts, arity, limit, constant_number, constant_of, operation_of, terms_by_kind, term_of, names_of}
use Rattle.table.specs.Scan.{under, next}
use Rattle.table.specs.Code.{code, skip, part, trace, tasks, task_at, term_node, node_for, scope_for, home_for, blocks_from}
use Rattle.delivery.specs.Delivery.{judged, delivered}
use Rattle.calculus.specs.Elements.{constant_element, leaf_makes, one_makes, makes, is_function, is_record, is_cell, making, sendable}
use Rattle.calculus.specs.Constraint.{range}
use Rattle.calculus.specs.Rules.{name_of, perms_of, guarded, is_block, permissions, delivery_to, leaf_rule, one_rule, two_rule, flow, entry}
use Rattle.calculus.specs.Rules.{two_sender, sender as sender_rule, senders as senders_rule, rule}
use Rattle.calculus.specs.Layout.{row_words, estimate_words, sets}
use Rattle.calculus.specs.Estimate.{whole, estimate}
use Rattle.calculus.specs.Samples.{single, relay, twins}
use Rattle.text.specs.Text.{bytes, decimal}
use Rattle.senders.specs.Text.{text}

abbrev told : ℕ → List ℕ → List ℕ
told ρ ws = whole (estimate (code ws) ρ) (text ws)

-- two handlers of the name 0 that send to it; the second's guard lets the first in alone
abbrev talkers : List ℕ
talkers =
    0x01000002 ∷ 0x02000000 ∷ 0x03000001 ∷ 0x04000000 ∷ 0x23000000 ∷ 0x13000000 ∷ 0x14000000 ∷ 0x02000000 ∷ 0x03000002 ∷ 0x04000001
    ∷ 0x23000000 ∷ 0x13000000 ∷ 0x10000001 ∷ []

pub texts :
    told 0 (0x01000000 ∷ []) ∷ told 0 (single 0 (0x24000002 ∷ [])) ∷ told 0 (single 4 (0x24000002 ∷ [])) ∷ told 0 (relay 8 0)
    ∷ told 8 (relay 8 0) ∷ told 0 (relay 8 1) ∷ told 0 twins ∷ told 0 talkers
    -- an estimate of no words
    ∷ text (relay 8 0) [] ∷ []
    ≡ []
    ∷ bytes "handler 0 name 0 from opponent\n"
    ∷ bytes "handler 0 name 0 from -\n"
    ∷ (bytes "handler 0 name 0 from opponent\n" ++ bytes "handler 1 name 1 from 0\n")
    ∷ (bytes "handler 0 name 0 from opponent\n" ++ bytes "handler 1 name 1 from 0 opponent\n")
    ∷ (bytes "handler 0 name 0 from opponent\n" ++ bytes "handler 1 name 1 from -\n")
    ∷ (bytes "handler 0 name 0 from opponent\n" ++ bytes "handler 1 name 1 from -\n" ++ bytes "handler 2 name 1 from 0\n")
    ∷ (bytes "handler 0 name 0 from 0 1 opponent\n" ++ bytes "handler 1 name 0 from 0\n")
    ∷ (bytes "handler 0 name 0 from -\n" ++ bytes "handler 1 name 1 from -\n")
    ∷ []
unfolding parts_by_kind limits_by_kind parts arity limit constant_number constant_of operation_of terms_by_kind term_of names_of under next code skip part trace tasks
    task_at term_node node_for scope_for home_for blocks_from within member union difference lowest constant_element leaf_makes one_makes makes is_function
    is_record is_cell making sendable range name_of perms_of guarded is_block permissions delivery_to judged delivered leaf_rule one_rule two_rule flow entry
    two_sender sender_rule senders_rule rule row_words estimate_words sets estimate whole decimal text
texts = refl
