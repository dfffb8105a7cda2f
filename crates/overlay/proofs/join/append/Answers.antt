-- `overlay::join::append` meets its contract. Assumes nothing.
use Prim.Native.Nat.{ℕ, ◌+◌}
use mathlib.Core.Path.{◌≡◌, sym, ap, ◌∙◌}
use mathlib.Core.List.{List}
use native.Mathlib.Numerals.{add-one}
use native.Mathlib.Omega.{arith}
use lib.ListN.{get_or, set}
use lib.Seq.{paste, paste-suc}
use Rattle.overlay.proofs.join.append.Goals as goal

pub loop-i-preserved : goal.loop-i-preserved
loop-i-preserved c =
    let a = c.args in
    let l = c.loop-i in
    ap (λ (v : List ℕ). set v (a.at + l.i) (get_or a.part.now l.i 0)) l.invariant
    ∙ paste-suc a.out.now a.at a.part.now l.i 0 (omega arith) (omega arith)
    ∙ ap (paste a.out.now a.at a.part.now) (sym (add-one l.i))
