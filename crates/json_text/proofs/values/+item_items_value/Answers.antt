-- The cycle of calls {item, items, value} meets its contracts.
-- Assumes nothing.
use native.Mathlib.Omega.{arith}
use mathlib.Core.Path.{sym, ap, ◌∙◌}
use lib.ListN.{drop}
use Rattle.std.specs.Prelude.{Some}
use Rattle.json_text.specs.declared.Item.{Item}
use Rattle.json_text.specs.Bytes.{head, tail, rest, after}
use Rattle.json_text.specs.Values.{separated, item, value}
use Rattle.json_text.specs.Answers.{started, stepped}
use Rattle.json_text.proofs.Choice.{is, is-not}
use Rattle.json_text.proofs.Places.{tail-drop}
use Rattle.json_text.proofs.Repetition.{after-fails, after-goes, after-ends}
use Rattle.json_text.proofs.Shorter.{item-narrow, value_in}
use Rattle.json_text.proofs.Texts.{item-none, item-half, item-whole, items-none, items-some, value-plain, value-deep, value-opens}
use Rattle.json_text.proofs.values.+item_items_value.Goals as goal

-- an item

pub item-returns-in_err-p : goal.item-returns-in_err-p
item-returns-in_err-p t c = rw c.from_residual.ensures (sym (item-none _ _ (value c.args.nest) (sym c.in_err-p.ensures)))

pub item-value-requires : goal.item-value-requires
item-value-requires t c = (omega (arith, c.decreases), tt)

pub item-returns-in_err-q : goal.item-returns-in_err-q
item-returns-in_err-q t c =
    rw c.from_residual-in_err-q.ensures (sym (item-half _ _ (value c.args.nest) _ (sym c.in_ok-p.ensures) (sym c.in_err-q.ensures)))

pub item-returns : goal.item-returns
item-returns t c =
    let a = c.args in
    sym
    (item-whole _ _ (value a.nest) _ _ (sym c.in_ok-p.ensures) (sym c.in_ok-q.ensures)
    ∙ ap (separated a.keyed) (sym c.space.ensures)
    ∙ sym c.separated.ensures)

-- the items behind a bracket

pub items-returns-then-byte-closing : goal.items-returns-then-byte-closing
items-returns-then-byte-closing t c =
    let a = c.args in
    sym
    (items-none _ _ (value a.nest) (is (c.byte.ensures ∙ ap head c.space-p.ensures) (c.if-byte-closing.true ∙ c.closing.ensures.0))
    ∙ ap rest (ap tail (sym c.space-p.ensures) ∙ tail-drop a.text.now c.space-p.result))

pub items-loop-q-init : goal.items-loop-q-init
items-loop-q-init t c =
    let a = c.args in
    items-some _ _ (value a.nest) (is-not (c.byte.ensures ∙ ap head c.space-p.ensures) (λ e. c.if-byte-closing.false (e ∙ sym c.closing.ensures.0)))
    ∙ ap (after (item (value a.nest) a.keyed)) (sym c.space-p.ensures)

pub items-item-requires : goal.items-item-requires
items-item-requires t c = (omega (arith, c.decreases), tt)

pub items-returns-in_err-q : goal.items-returns-in_err-q
items-returns-in_err-q t c =
    let a = c.args in
    let f = value a.nest in
    rw c.from_residual.ensures
    (sym
    (c.loop-q.invariant
    ∙ after-fails (item f a.keyed) (item-narrow f (value_in a.nest) a.keyed) (drop c.loop-q.p a.text.now) (sym c.in_err-q.ensures)))

pub items-loop-q-smaller : goal.items-loop-q-smaller
items-loop-q-smaller t c =
    let a = c.args in
    item-narrow (value a.nest) (value_in a.nest) a.keyed (drop c.loop-q.p a.text.now) _ _ (sym c.in_ok-q.ensures ∙ ap (λ (x : Item). stepped a.text.now (Some x)) c.in-Goes.is)

pub items-loop-q-preserved : goal.items-loop-q-preserved
items-loop-q-preserved t c =
    let a = c.args in
    let f = value a.nest in
    c.loop-q.invariant
    ∙ after-goes (item f a.keyed) (item-narrow f (value_in a.nest) a.keyed) (drop c.loop-q.p a.text.now) _ _ (sym c.in_ok-q.ensures ∙ ap (λ (x : Item). stepped a.text.now (Some x)) c.in-Goes.is)

pub items-returns-in-Ends : goal.items-returns-in-Ends
items-returns-in-Ends t c =
    let a = c.args in
    let f = value a.nest in
    sym
    (c.loop-q.invariant
    ∙ after-ends (item f a.keyed) (item-narrow f (value_in a.nest) a.keyed) (drop c.loop-q.p a.text.now) _ (sym c.in_ok-q.ensures ∙ ap (λ (x : Item). stepped a.text.now (Some x)) c.in-Ends.is))

-- a value

pub value-items-requires : goal.value-items-requires
value-items-requires t c = (omega (arith, c.decreases), tt)

pub value-returns-in-Plain : goal.value-returns-in-Plain
value-returns-in-Plain t c =
    let a = c.args in
    sym (value-plain _ a.nest _ (sym c.start.ensures ∙ ap (started a.text.now) c.in-Plain.is))

pub value-returns-then-nest-eq0 : goal.value-returns-then-nest-eq0
value-returns-then-nest-eq0 t c =
    let a = c.args in
    sym (value-deep _ _ _ (sym c.start.ensures ∙ ap (started a.text.now) c.in-Opens.is) a.nest c.if-nest-eq0.true)

pub value-returns-else-nest-eq0 : goal.value-returns-else-nest-eq0
value-returns-else-nest-eq0 t c =
    let a = c.args in
    let n = c.if-nest-eq0.false in
    sym (value-opens _ _ _ (sym c.start.ensures ∙ ap (started a.text.now) c.in-Opens.is) a.nest _ (omega (arith, n)) ∙ sym c.items.ensures)
