use Prim.Native.Nat.{ℕ}
use mathlib.Core.Path.{◌≡◌, refl, sym, ap, ◌∙◌}
use native.Mathlib.Omega.{arith}
use lib.ListN.{take}
use Rattle.std.proofs.lemmas.List.{set-get_or}
use Rattle.listing.proofs.Zeros.{or_zero}
use Rattle.packing.proofs.Laws.{taken_start, taken-end, taken_more, taken_step}
use Rattle.packing.proofs.line_words.Goals as goal

pub loop-n-init : goal.loop-n-init
loop-n-init c = taken_start c.args.text.now c.args.words.now c.requires

pub returns-then-text-at : goal.returns-then-text-at
returns-then-text-at c =
    let l = c.loop-n in let text = c.args.text.now in
    let here = taken-end text l.words l.n l.at l.invariant c.if-text-at.true in
    (l.invariant.0, ap (take l.n) (set-get_or l.words l.n 0) ∙ here)

pub loop-n-preserved : goal.loop-n-preserved
loop-n-preserved c =
    let l = c.loop-n in let text = c.args.text.now in let e = c.line_end-end.ensures in
    let is = c.unwrap_or.ensures ∙ or_zero _ c.word_of_line.result c.word_of_line.ensures in
    taken_step text l.words l.n l.at l.invariant (omega arith) _ e.0 (omega (arith, l.invariant.1)) e.1 _ is

pub returns-then-text-at-2 : goal.returns-then-text-at-2
returns-then-text-at-2 c =
    let l = c.loop-n in let text = c.args.text.now in
    let all : l.n ≡ 256 = omega (arith, l.invariant.0, c.requires) in
    (omega arith, ap (λ (k : ℕ). take k l.words) (sym all) ∙ taken-end text l.words l.n l.at l.invariant c.if-text-at-2.true)

pub returns-else-text-at-2 : goal.returns-else-text-at-2
returns-else-text-at-2 c =
    let l = c.loop-n in
    taken_more c.args.text.now l.words l.n l.at l.invariant c.if-text-at-2.false _ refl (omega (arith, l.invariant.0, c.requires))
