-- `commands::overlays::starts_system` meets its contract. Assumes nothing.
use Prim.Native.Nat.{ℕ}
use mathlib.Core.Path.{sym, ap, ap₂, ◌∙◌}
use mathlib.Core.Bool.{Bool, ◌&&◌}
use native.Mathlib.Nat.{add-zero}
use lib.Dec.{eqb}
use lib.ListN.{get_or}
use lib.Seq.{get_or-drop}
use Rattle.commands.specs.Printed.{starts_system}
use Rattle.commands.proofs.overlays.starts_system.Goals as goal

pub returns : goal.returns
unfolding starts_system
returns c =
    let at = c.args.at in
    let text = c.args.text.now in
    ap₂ (λ (x : ℕ) (r : Bool). eqb x 115 && r) (c.byte_at-s.ensures ∙ ap (λ (i : ℕ). get_or text i 0) (sym (add-zero at)) ∙ sym (get_or-drop at text 0 0))
    (ap₂ (λ (x : ℕ) (r : Bool). eqb x 121 && r) (c.byte_at-y.ensures ∙ sym (get_or-drop at text 1 0))
    (ap₂ (λ (x : ℕ) (r : Bool). eqb x 115 && r) (c.byte_at-t.ensures ∙ sym (get_or-drop at text 2 0))
    (ap₂ (λ (x : ℕ) (r : Bool). eqb x 116 && r) (c.byte_at-u.ensures ∙ sym (get_or-drop at text 3 0))
    (ap₂ (λ (x y : ℕ). eqb x 101 && eqb y 109) (c.byte_at-v.ensures ∙ sym (get_or-drop at text 4 0)) (c.byte_at-w.ensures ∙ sym (get_or-drop at text 5 0))))))
