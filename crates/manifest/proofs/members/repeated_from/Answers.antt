use mathlib.Core.Path.{refl, sym, ap, subst, ◌∙◌}
use mathlib.Core.Bool.{true}
use mathlib.Core.List.{List, []}
use Prim.Native.Nat.{ℕ}
use native.Mathlib.Omega.{arith}
use lib.ListN.{take, drop, set, length-drop, length-set}
use Rattle.json_text.specs.Bytes.{starts}
use Rattle.json_text.specs.Strings.{units}
use Rattle.json_text.specs.Units.{spread}
use Rattle.json_text.specs.Values.{value, item}
use Rattle.manifest.specs.Members.{has, repeated}
use Rattle.manifest.proofs.Marks.{Marked, marked-none, made, free, marked_next}
use Rattle.manifest.proofs.Tops.{split-next, repeated-end, repeated-here, repeated-later}
use Rattle.manifest.proofs.members.repeated_from.Goals as goal

pub loop-at-init : goal.loop-at-init
loop-at-init c = (refl, refl, omega (arith, length-drop c.args.at c.args.text.now), marked-none c.args.marks.now, refl)

pub shape_of-marks-then-has_marked : goal.shape_of-marks-then-has_marked
shape_of-marks-then-has_marked c = c.loop-at.invariant.4

pub returns-then-has_marked : goal.returns-then-has_marked
returns-then-has_marked c =
    let a = c.args in
    sym
    (c.loop-at.invariant.0
    ∙ repeated-here (item (value 15) true) (take c.loop-at.count (starts (item (value 15) true) (drop a.at a.text.now))) (drop c.loop-at.member a.text.now) ((ap (λ (bs : List ℕ). has (take c.loop-at.count (starts (item (value 15) true) (drop a.at a.text.now))) (units bs)) (sym c.behind-key.ensures)) ∙ made _ _ (sym c.has_marked.ensures ∙ c.if-has_marked.true)))

pub returns-in_default : goal.returns-in_default
returns-in_default c =
    let a = c.args in
    sym
    (c.loop-at.invariant.0
    ∙ repeated-later (item (value 15) true) (take c.loop-at.count (starts (item (value 15) true) (drop a.at a.text.now))) (drop c.loop-at.member a.text.now) [] c.in_default.ensures ((ap (λ (bs : List ℕ). has (take c.loop-at.count (starts (item (value 15) true) (drop a.at a.text.now))) (units bs)) (sym c.behind-key.ensures)) ∙ free c.loop-at.marks (take c.loop-at.count (starts (item (value 15) true) (drop a.at a.text.now))) _ _ c.loop-at.invariant.3 c.hash-number.ensures.0 (sym c.has_marked.ensures ∙ c.if-has_marked.false))
    ∙ repeated-end _)

pub loop-at-smaller : goal.loop-at-smaller
loop-at-smaller c = c.in-Some.ensures.1

pub loop-at-preserved : goal.loop-at-preserved
loop-at-preserved c =
    let a = c.args in
    let n = split-next (starts (item (value 15) true) (drop a.at a.text.now)) c.loop-at.count (c.loop-at.invariant.1 ∙ c.in-Some.ensures.0) in (
      c.loop-at.invariant.0
          ∙ repeated-later (item (value 15) true) (take c.loop-at.count (starts (item (value 15) true) (drop a.at a.text.now))) (drop c.loop-at.member a.text.now) _ c.in-Some.ensures.0 ((ap (λ (bs : List ℕ). has (take c.loop-at.count (starts (item (value 15) true) (drop a.at a.text.now))) (units bs)) (sym c.behind-key.ensures)) ∙ free c.loop-at.marks (take c.loop-at.count (starts (item (value 15) true) (drop a.at a.text.now))) _ _ c.loop-at.invariant.3 c.hash-number.ensures.0 (sym c.has_marked.ensures ∙ c.if-has_marked.false))
          ∙ ap (λ (l : List (List ℕ)). repeated l (starts (item (value 15) true) (drop c.in-Some.next a.text.now))) (sym n.0),
      n.1,
      omega (arith, c.loop-at.invariant.2, c.in-Some.ensures.1),
      subst (Marked (set c.loop-at.marks c.hash-number.result 1)) (sym n.0) (marked_next c.loop-at.marks (take c.loop-at.count (starts (item (value 15) true) (drop a.at a.text.now))) (drop c.loop-at.member a.text.now) c.hash-number.result c.loop-at.invariant.3 (c.hash-number.ensures.0 ∙ ap (λ (bs : List ℕ). spread 0 (units bs)) c.behind-key.ensures) (omega (arith, c.hash-number.ensures.1, c.loop-at.invariant.4, c.requires))),
      length-set c.loop-at.marks c.hash-number.result 1 ∙ c.loop-at.invariant.4,
    )
