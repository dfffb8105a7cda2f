use Rattle.listing.proofs.Cutting.{end_after, rest-bad, rest-good, rest-none, indent-spaces}
use Rattle.listing.proofs.Zeros.{zero_at-none, other_at-some}
use Prim.Native.Nat.{◌+◌}
use mathlib.Core.Path.{refl, sym, ap, ◌∙◌}
use mathlib.Core.Bool.{not}
use native.Mathlib.Omega.{arith}
use borrow.Author.Rules.{rules}
use Rattle.listing.proofs.read.misspelled.Goals as goal

pub loop-at-init : goal.loop-at-init
loop-at-init c =
    (search rules, search rules, refl)

pub word_in-requires : goal.word_in-requires
word_in-requires c =
    (c.requires.0, c.indent-s.ensures.spaces ∙ indent-spaces _, c.indent-s.ensures.upper_bound)

pub returns-then-is_none : goal.returns-then-is_none
returns-then-is_none c =
    let l = c.loop-at in
    let text = c.args.text.now in
    let e = c.line_end-end in
    let z = zero_at-none _ c.word_in.result c.word_in.ensures (c.is_none.ensures ∙ ap not c.if-is_none.true) in
    (sym (l.invariant.2 ∙ rest-bad text (l.n + 1) l.at e.result c.loop-at-test.true e.ensures.0 z), omega arith)

pub loop-at-smaller : goal.loop-at-smaller
loop-at-smaller c =
    let l = c.loop-at in
    let e = c.line_end-end in
    omega (arith, end_after c.args.text.now l.at e.result c.loop-at-test.true e.ensures.0, e.ensures.1)

pub loop-at-preserved : goal.loop-at-preserved
loop-at-preserved c =
    let l = c.loop-at in
    let text = c.args.text.now in
    let e = c.line_end-end in
    let some = other_at-some _ c.word_in.result c.word_in.ensures (c.is_none.ensures ∙ ap not c.if-is_none.false) in (
      e.ensures.1,
      omega (arith, l.invariant.1, end_after text l.at e.result c.loop-at-test.true e.ensures.0),
      l.invariant.2 ∙ rest-good text (l.n + 1) l.at e.result c.loop-at-test.true e.ensures.0 some,
    )

pub returns : goal.returns
returns c =
    let l = c.loop-at in
    l.invariant.2 ∙ rest-none c.args.text.now (l.n + 1) l.at c.loop-at-test.false
