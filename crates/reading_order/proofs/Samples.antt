-- Systems of document 01 and some more, from their words to the order or loop of the least estimate, computed.
use Prim.Native.Nat.{ℕ, ◌+◌}
use mathlib.Core.Path.{◌≡◌, refl}
use mathlib.Core.List.{List, [], ◌∷◌, ◌++◌}
use Rattle.permset.specs.Sets.{within, member, union, difference, lowest}
use Rattle.table.specs.Words.{parts_by_kind, limits_by_kind, parts, arity, limit, constant_number, constant_of, operation_of, terms_by_kind, term_of, names_of}
use Rattle.table.specs.Scan.{under, next}
use Rattle.table.specs.Code.{code, skip, part, trace, tasks, task_at, term_node, node_for, scope_for, home_for, blocks_from}
use Rattle.delivery.specs.Delivery.{judged, delivered}
use Rattle.calculus.specs.Elements.{constant_element, leaf_makes, one_makes, makes, is_function, is_record, is_cell, making, sendable}
use Rattle.calculus.specs.Constraint.{range}
use Rattle.calculus.specs.Rules.{name_of, perms_of, guarded, is_block, permissions, delivery_to, leaf_rule, one_rule, two_rule, flow, entry}
use Rattle.calculus.specs.Rules.{two_sender, sender as sender_rule, senders as senders_rule, rule}
use Rattle.calculus.specs.Layout.{row_words, estimate_words, sets}
use Rattle.calculus.specs.Estimate.{whole, estimate}
use Rattle.calculus.specs.Samples.{single, relay, twins}
use Rattle.graph.specs.Answer.{written}
use Rattle.graph.specs.Answer as graph
use Rattle.reading_order.specs.Reply.{Reply, ordered, looped, arranged}
use Rattle.reading_order.specs.Relation.{digit, sender_rows, live_blocks}

-- what an arrangement says, and the positions that it counts
abbrev said : List ℕ → ℕ → Reply × List ℕ
said rows live = (arranged (graph.answer rows live 64), written rows live (graph.answer rows live 64))

abbrev told : ℕ → List ℕ → Reply × List ℕ
told ρ ws = whole (estimate (code ws) ρ) (λ est. whole (sender_rows (code ws) est) (λ rows. said rows (live_blocks (code ws) est)))

-- two handlers of the name 0 that send to it; the second's guard lets the first in alone
abbrev talkers : List ℕ
talkers =
    0x01000002 ∷ 0x02000000 ∷ 0x03000001 ∷ 0x04000000 ∷ 0x23000000 ∷ 0x13000000 ∷ 0x14000000 ∷ 0x02000000 ∷ 0x03000002 ∷ 0x04000001
    ∷ 0x23000000 ∷ 0x13000000 ∷ 0x10000001 ∷ []

-- a handler that sends unit to a name
abbrev teller : (name guard to : ℕ) → List ℕ
teller name guard to = (0x02000000 + name) ∷ 0x03000001 ∷ (0x04000000 + guard) ∷ 0x23000000 ∷ (0x13000000 + to) ∷ 0x10000001 ∷ []

-- 0 sends to 2 and 2 to 1; 0 and 1 to each other
abbrev chain : List ℕ
chain = 0x01000003 ∷ teller 0 0 2 ++ teller 1 1 9 ++ teller 2 1 1

abbrev pair : List ℕ
pair = 0x01000002 ∷ teller 0 0 1 ++ teller 1 1 0

pub replies :
    told 0 (0x01000000 ∷ []) ∷ told 0 (single 0 (0x24000002 ∷ [])) ∷ told 0 (single 4 (0x24000002 ∷ [])) ∷ told 0 (relay 8 0)
    ∷ told 0 (relay 8 1) ∷ told 0 twins ∷ told 0 talkers ∷ told 0 chain ∷ told 0 pair ∷ []
    ≡ (ordered 0, [])
    ∷ (ordered 1, 0 ∷ [])
    ∷ (ordered 0, [])
    ∷ (ordered 2, 0 ∷ 1 ∷ [])
    ∷ (ordered 1, 0 ∷ [])
    ∷ (ordered 2, 0 ∷ 2 ∷ [])
    ∷ (looped 1, 0 ∷ [])
    ∷ (ordered 3, 0 ∷ 2 ∷ 1 ∷ [])
    ∷ (looped 2, 0 ∷ 1 ∷ [])
    ∷ []
unfolding parts_by_kind limits_by_kind parts arity limit constant_number constant_of operation_of terms_by_kind term_of names_of under next code skip part trace tasks
    task_at term_node node_for scope_for home_for blocks_from within member union difference lowest constant_element leaf_makes one_makes makes is_function
    is_record is_cell making sendable range name_of perms_of guarded is_block permissions delivery_to judged delivered leaf_rule one_rule two_rule flow entry
    two_sender sender_rule senders_rule rule row_words estimate_words sets estimate whole digit sender_rows live_blocks arranged written graph.answer
replies = refl
