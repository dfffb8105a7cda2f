use mathlib.Core.Path.{◌≡◌, sym, ap, ◌∙◌, subst}
use mathlib.Core.List.{List}
use Prim.Native.Nat.{ℕ, ◌+◌, ◌*◌, ◌≤◌, ◌<◌}
use native.Mathlib.Omega.{arith}
use lib.ListN.{length}
use Rattle.table.specs.Code.{code}
use Rattle.table.proofs.Limits.{size-le}
use Rattle.calculus.specs.Elements.{plain, elements}
use Rattle.calculus.proofs.Places.{fits-row}
use Rattle.rows.specs.declared.layout.Layout.{Layout}
use Rattle.rows.specs.Laid.{LaidOut}
use Rattle.calls.proofs.Bounds.{row_small}
use Rattle.masks.specs.Masks.{mark_if}
use Rattle.stray.specs.Allowed.{Allowed}
use Rattle.stray.proofs.Named.{word-named, one_more}
use Rattle.stray.proofs.allowed.set_words.Goals as goal

-- the element of a word stands in the row
fits : (ws : List ℕ) (l : Layout) → LaidOut (code ws) l → (n : ℕ) → l.row ≤ n → (p : ℕ) → p < length ws → 32 * l.lead + p < 32 * n
unfolding code
fits ws l o n h p i = omega (arith, fits-row (code ws), o.row, o.lead)

lead_low : (ws : List ℕ) (l : Layout) → LaidOut (code ws) l → l.lead ≤ l.row
lead_low ws l o = omega (arith, fits-row (code ws), o.row, o.lead)

all : (ws : List ℕ) (p : ℕ) → p ≡ length ws → plain (code ws) + p ≡ elements (code ws)
unfolding code
all ws p e = omega arith

pub overflow_mul-first : goal.overflow_mul-first
overflow_mul-first c =
    let a = c.args in
    omega (arith, row_small a.words.now c.requires.words_value.0 a.l c.requires.words_value.1, lead_low a.words.now a.l c.requires.words_value.1)

pub overflow_add-first : goal.overflow_add-first
overflow_add-first c =
    omega (arith, row_small c.args.words.now c.requires.words_value.0 c.args.l c.requires.words_value.1, lead_low c.args.words.now c.args.l c.requires.words_value.1, size-le c.args.words.now c.requires.words_value.0)

pub set_if-requires : goal.set_if-requires
set_if-requires c =
    let l = c.loop-p in
    omega (arith, fits c.args.words.now c.args.l c.requires.words_value.1 (length l.row) (omega (arith, c.requires.words_value.2, l.auto.row)) l.p c.loop-p-test.true)

pub loop-p-preserved : goal.loop-p-preserved
loop-p-preserved c =
    let l = c.loop-p in
    let ws = c.args.words.now in
    let t : l.p < length ws = c.loop-p-test.true in
    let i = fits ws c.args.l c.requires.words_value.1 (length l.row) (omega (arith, c.requires.words_value.2, l.auto.row)) l.p t in
    let z : plain (code ws) + l.p + 1 ≡ plain (code ws) + (l.p + 1) = omega arith in
    let y : 32 * c.args.l.lead + l.p ≡ plain (code ws) + l.p = omega (arith, c.requires.words_value.1.lead) in
    subst (Allowed (code ws) c.args.h (plain (code ws) + (l.p + 1))) (sym (c.set_if.ensures ∙ ap (mark_if c.named.result l.row) y))
    (subst (λ (n : ℕ). Allowed (code ws) c.args.h n (mark_if c.named.result l.row (plain (code ws) + l.p))) z
    (one_more (code ws) c.args.h l.p l.row (omega arith) c.named.result
    (c.named.ensures ∙ word-named ws c.requires.words_value.0 l.p t c.args.h) l.invariant))

pub returns : goal.returns
returns c =
    let l = c.loop-p in
    let e : plain (code c.args.words.now) + l.p ≡ elements (code c.args.words.now) = all c.args.words.now l.p (omega arith) in
    subst (λ (n : ℕ). Allowed (code c.args.words.now) c.args.h n l.row) e l.invariant
