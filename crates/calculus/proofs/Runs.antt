-- The example runs come out as they say, and the messages: one claim over each list, computed.
use Prim.Native.Nat.{ℕ}
use mathlib.Core.Path.{◌≡◌, refl, sym, subst}
use mathlib.Core.List.{List, [], ◌∷◌, map, Memᴰ}
use Rattle.permset.specs.Sets.{member, within, difference}
use Rattle.delivery.specs.Delivery.{judged, delivered}
use Rattle.table.specs.Words.{names_of, parts_by_kind, parts, arity, terms_by_kind, term_of, constant_of, operation_of, constant_number}
use Rattle.table.specs.Scan.{next, under}
use Rattle.table.specs.Code.{code, node_for, scope_for, home_for, blocks_from, task_at, tasks, trace, part, skip, term_node}
use Rattle.calculus.specs.Rules.{name_of, perms_of, guarded, delivery_to}
use Rattle.calculus.specs.Guarantee.{Covers}
use Rattle.calculus.specs.Values.{Value, unit}
use Rattle.calculus.specs.Values.{whole, look, get_field, delete_field, set_field, plain, left_out, kept, sent_as, known, datum, same_number, same, operate}
use Rattle.calculus.specs.Values.{on_atom, on_function, on_fields, on_cell, on_number, on_text, on_name, on_truth}
use Rattle.calculus.specs.Machine.{step, frame_step, second_step, two_step, with_field, first_step, choose, one_step, term_step}
use Rattle.calculus.specs.Machine.{leaf_step, found}
use Rattle.calculus.specs.Run.{Event, starts, exercised, run, after, act, stepped, moved, effect, sent, joined}
use Rattle.calculus.specs.Runs.{alone, times, stopping, going, opposing, examples, every, outcome, reached, expected, messages}

pub runs : map reached every ≡ map expected every
unfolding
    every stopping going opposing examples reached expected outcome run after act stepped moved effect sent joined step frame_step second_step two_step with_field first_step
    choose one_step term_step leaf_step found whole look get_field delete_field set_field plain left_out kept sent_as known datum same_number same operate on_atom
    on_function on_fields on_cell on_number on_text on_name on_truth name_of perms_of guarded delivery_to judged delivered difference member within code node_for scope_for home_for
    blocks_from task_at tasks trace part skip term_node next under names_of parts_by_kind parts arity terms_by_kind term_of constant_of
    operation_of constant_number
runs = refl

pub messages-sent : map (λ (m : Value × Value). sent_as m.0) messages ≡ map (λ (m : Value × Value). m.1) messages
unfolding messages sent_as left_out kept delete_field same constant_number
messages-sent = refl

-- The promise says something: 0 does not cover *direct*, whose run exercises permission 1.
abbrev direct : List ℕ
direct = alone 0 (0x24000002 ∷ [])

abbrev events : List Event
events = starts 1 unit ∷ times 3 0

ran : exercised (run (code direct) 0 events) ≡ 2 ∷ []
unfolding
    exercised run after act stepped moved effect sent joined step frame_step second_step two_step with_field first_step
    choose one_step term_step leaf_step found whole look get_field delete_field set_field plain left_out kept sent_as known datum same_number same operate on_atom
    on_function on_fields on_cell on_number on_text on_name on_truth name_of perms_of guarded delivery_to judged delivered difference member within code node_for scope_for home_for
    blocks_from task_at tasks trace part skip term_node next under names_of parts_by_kind parts arity terms_by_kind term_of constant_of
    operation_of constant_number
ran = refl

pub too_small : Covers (code direct) 0 0 → ⊥
unfolding member
too_small k = k events 1 (2, subst (Memᴰ 2) (sym ran) (Memᴰ.head refl), tt)
