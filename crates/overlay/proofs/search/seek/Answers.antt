use mathlib.Core.Path.{◌≡◌, sym, ap, subst, ◌∙◌}
use Prim.Native.Nat.{ℕ, ◌+◌, ◌-◌, ◌≤◌}
use native.Mathlib.Omega.{arith}
use lib.ListN.{length, get_or, take, drop}
use Rattle.std.specs.Prelude.{Some}
use Rattle.table.specs.Words.{narrow, argument}
use Rattle.blocks.specs.Blocks.{cut, blocks}
use Rattle.blocks.proofs.Tables.{Cuts}
use Rattle.blocks.proofs.Narrow.{table}
use Rattle.blocks.proofs.Places.{here}
use Rattle.overlay.specs.Lookup.{seek}
use Rattle.overlay.specs.Parts.{span_of}
use Rattle.overlay.proofs.Seek.{seek-here, seek-on, seek-none}
use Rattle.overlay.proofs.search.seek.Goals as goal

pub bounds-words-0 : goal.bounds-words-0
bounds-words-0 c = (table _ c.requires).inside

pub loop-init : goal.loop-init
unfolding blocks
loop-init c =
    let a = c.args in
    let ws = a.words.now in
    let t = table ws c.requires in
    let n : c.argument_of-handlers.result - 0 ≡ argument (get_or ws 0 0) = omega (arith, c.argument_of-handlers.ensures) in (
      t.inside,
      subst (λ (k : ℕ). Cuts narrow k (drop 1 ws)) (sym n) t.cuts,
      ap (λ (k : ℕ). seek a.name a.perms 1 (cut k (drop 1 ws))) (sym n),
    )

pub block_end-end-requires : goal.block_end-end-requires
block_end-end-requires c = ((table _ c.requires).short, c.loop.invariant.0)

pub has_key-requires : goal.has_key-requires
has_key-requires c =
    let l = c.loop in
    let r = here narrow c.args.words.now (c.argument_of-handlers.result - l.counter) l.at (omega arith) l.invariant.0 l.invariant.1 in
    omega arith

pub returns-then-has_key : goal.returns-then-has_key
unfolding span_of
returns-then-has_key c =
    let l = c.loop in
    let left : ℕ = c.argument_of-handlers.result - l.counter in
    let r = here narrow c.args.words.now left l.at (omega arith) l.invariant.0 l.invariant.1 in
    let e : c.block_end-end.result ≡ l.at + length (take r.size (drop l.at _)) =
    c.block_end-end.ensures ∙ ap (λ (k : ℕ). l.at + k) (sym (r.whole ∙ r.sized)) in
    ap (λ (q : ℕ). Some (l.at, q)) e
    ∙ sym (ap span_of (l.invariant.2 ∙ seek-here _ _ _ left l.at r (sym c.has_key.ensures ∙ c.if-has_key.true)))

pub loop-preserved : goal.loop-preserved
loop-preserved c =
    let l = c.loop in
    let a = c.args in
    let ws = a.words.now in
    let left : ℕ = c.argument_of-handlers.result - l.counter in
    let less : left - 1 ≡ c.argument_of-handlers.result - (l.counter + 1) = omega arith in
    let r = here narrow ws left l.at (omega arith) l.invariant.0 l.invariant.1 in
    let end : ℕ = c.block_end-end.result in
    let e : l.at + r.size ≡ end = ap (λ (k : ℕ). l.at + k) r.sized ∙ sym c.block_end-end.ensures in (
      subst (λ (q : ℕ). q ≤ length ws) e r.inside,
      subst (λ (k : ℕ). Cuts narrow k (drop end ws)) less (subst (λ (q : ℕ). Cuts narrow (left - 1) (drop q ws)) e r.rest),
      l.invariant.2
          ∙ seek-on a.name a.perms ws left l.at r (sym c.has_key.ensures ∙ c.if-has_key.false)
          ∙ ap (λ (q : ℕ). seek a.name a.perms q (cut (left - 1) (drop q ws))) e
          ∙ ap (λ (k : ℕ). seek a.name a.perms end (cut k (drop end ws))) less,
    )

pub returns : goal.returns
unfolding span_of cut
returns c =
    let l = c.loop in
    let a = c.args in
    let none : c.argument_of-handlers.result - l.counter ≡ 0 = omega arith in
    sym
    (ap span_of
    (l.invariant.2
    ∙ ap (λ (k : ℕ). seek a.name a.perms l.at (cut k (drop l.at a.words.now))) none
    ∙ seek-none a.name a.perms l.at))
