use mathlib.Core.Path.{◌≡◌, sym, ap, ◌∙◌}
use mathlib.Core.Bool.{Bool, false, ◌&&◌}
use native.Mathlib.Omega.{arith}
use lib.ListN.{drop}
use Rattle.commands.specs.Printed.{starts_system, before}
use Rattle.commands.proofs.PairLaws.{and-false, before-end, before_here, before_more}
use Rattle.commands.proofs.overlays.second_start.Goals as goal
use Rattle.commands.proofs.overlays.second_start.Goals.{else-start-via-then-start+else-starts_system, else-start-via-else-start}

pub loop-i-init : goal.loop-i-init
loop-i-init c = omega arith

pub returns-then-starts_system : goal.returns-then-starts_system
returns-then-starts_system c =
    let l = c.loop-i in
    let text = c.args.text.now in
    let e = ap (λ (s : Bool). before s (drop l.i text)) c.if-start.true ∙ before_here text l.i (omega arith) (sym c.starts_system.ensures ∙ c.if-starts_system.true) in
    (omega (arith, l.invariant, e), omega arith)

pub loop-i-preserved : goal.loop-i-preserved
loop-i-preserved c =
    let l = c.loop-i in
    let text = c.args.text.now in
    let none : (l.start && starts_system (drop l.i text)) ≡ false =
    elim c.else-start.branch [
      | else-start-via-then-start+else-starts_system w ↦ and-false l.start (starts_system (drop l.i text)) (sym w.starts_system.ensures ∙ w.if-starts_system.false)
      | else-start-via-else-start w ↦ ap (λ (s : Bool). s && starts_system (drop l.i text)) w.if-start.false
    ] in
    omega (arith, l.invariant, before_more text l.i (omega arith) l.start none)

pub returns : goal.returns
returns c = let l = c.loop-i in (omega (arith, l.invariant, before-end c.args.text.now l.i l.start (omega arith)), omega arith)
