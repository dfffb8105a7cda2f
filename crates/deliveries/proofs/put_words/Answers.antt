use Prim.Native.Nat.{ℕ, ◌+◌, ◌-◌}
use mathlib.Core.Path.{◌≡◌, refl, sym, ap, ap₂, ◌∙◌}
use mathlib.Core.List.{List, [], ◌++◌, append-nil, append_assoc}
use native.Mathlib.Omega.{arith}
use lib.ListN.{get_or}
use Rattle.deliveries.specs.Text.{lines_of, text}
use Rattle.text.proofs.Adding.{added-nothing, added_then, added-as}
use Rattle.deliveries.proofs.Positions.{counted-most}
use Rattle.deliveries.proofs.SendLines.{sent, sent-end, sent-here, block_in}
use Rattle.deliveries.proofs.put_words.Goals as goal

pub loop-p-init : goal.loop-p-init
unfolding text
loop-p-init c = (omega arith, omega arith, omega arith, ([], added-nothing _ _, refl))

pub put_word-next-requires : goal.put_word-next-requires
put_word-next-requires c = let i = c.loop-p in (omega arith, omega (arith, i.invariant.1), c.requires, omega (arith, i.invariant.0, c.requires))

pub counted-count-requires : goal.counted-count-requires
counted-count-requires c = omega (arith, c.loop-p.invariant.2, c.requires)

pub loop-p-preserved : goal.loop-p-preserved
loop-p-preserved c =
    let a = c.args in let i = c.loop-p in let w = a.words.now in let f = c.put_word-next.ensures in
    let d = i.invariant.3.0 in let r = lines_of w i.p i.home (i.count - 1) (get_or w i.p 0) in (
      omega (arith, f.upper_bound, i.invariant.0),
      omega (arith, c.block_of-home.ensures, block_in (get_or w i.p 0) i.p i.home (i.p + 1) (omega arith) (omega (arith, i.invariant.1))),
      omega (arith, c.counted-count.ensures, counted-most (get_or w i.p 0) i.count, i.invariant.2),
      (
        d ++ r,
        added_then i.invariant.3.1 (added-as (ap (λ (n : ℕ). lines_of w i.p i.home n (get_or w i.p 0)) c.saturating_sub.ensures) f.added),
        ap₂ (λ (h t : ℕ). (d ++ r) ++ sent w (i.p + 1) h t) c.block_of-home.ensures c.counted-count.ensures
            ∙ append_assoc d r _
            ∙ ap (λ (l : List ℕ). d ++ l) (sym (sent-here w i.p i.home i.count (omega arith)))
            ∙ i.invariant.3.2,
      ),
    )

pub shape_of-out : goal.shape_of-out
shape_of-out c = c.loop-p.invariant.3.1.same

pub returns : goal.returns
returns c =
    let a = c.args in let i = c.loop-p in let w = a.words.now in let d = i.invariant.3.0 in
    let whole : d ≡ text w =
    sym (append-nil d) ∙ ap (λ (l : List ℕ). d ++ l) (sym (sent-end w i.p i.home i.count (omega arith))) ∙ i.invariant.3.2 in
    added-as whole i.invariant.3.1
