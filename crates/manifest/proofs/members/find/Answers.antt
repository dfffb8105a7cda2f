use mathlib.Core.Path.{sym, ap, ◌∙◌}
use mathlib.Core.Bool.{true}
use mathlib.Core.List.{List, []}
use Prim.Native.Nat.{ℕ}
use lib.ListN.{drop}
use Rattle.json_text.specs.Strings.{units}
use Rattle.json_text.specs.Units.{matches}
use Rattle.json_text.specs.Values.{value, item}
use Rattle.manifest.specs.Members.{find}
use Rattle.manifest.proofs.Tops.{starts_none, starts-at, find_none, find-here, find-later}
use Rattle.manifest.proofs.members.find.Goals as goal

pub returns-in_err-member : goal.returns-in_err-member
returns-in_err-member c =
    rw c.from_residual.ensures (sym (ap (find c.args.key.now) (starts_none 15 true c.args.text.now _ c.in_err-member.was) ∙ find_none _))

pub returns-then-spells : goal.returns-then-spells
returns-then-spells c =
    let a = c.args in
    sym (ap (find a.key.now) (starts-at 15 true a.text.now _ _ c.in_ok-member.was) ∙ c.loop-member.invariant ∙ find-here (item (value 15) true) _ (drop c.loop-member.member a.text.now) (ap (λ (bs : List ℕ). matches true a.key.now (units bs)) (sym c.behind.ensures) ∙ sym c.spells.ensures ∙ c.if-spells.true) ∙ sym c.name.ensures)

pub returns-in_err-member-2 : goal.returns-in_err-member-2
returns-in_err-member-2 c =
    let a = c.args in
    rw c.from_residual-in_err-member-2.ensures
    (sym (ap (find a.key.now) (starts-at 15 true a.text.now _ _ c.in_ok-member.was) ∙ c.loop-member.invariant ∙ find-later (item (value 15) true) _ (drop c.loop-member.member a.text.now) [] c.in_err-member-2.ensures (ap (λ (bs : List ℕ). matches true a.key.now (units bs)) (sym c.behind.ensures) ∙ sym c.spells.ensures ∙ c.if-spells.false) ∙ find_none _))

pub loop-member-preserved : goal.loop-member-preserved
loop-member-preserved c =
    let a = c.args in
    c.loop-member.invariant ∙ find-later (item (value 15) true) _ (drop c.loop-member.member a.text.now) _ c.in_ok-member-2.ensures.0 (ap (λ (bs : List ℕ). matches true a.key.now (units bs)) (sym c.behind.ensures) ∙ sym c.spells.ensures ∙ c.if-spells.false)
