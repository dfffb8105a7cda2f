-- `handler_lines::put_tail` meets its contract. Assumes nothing.
use Prim.Native.Nat.{ℕ}
use mathlib.Core.Path.{ap, ◌∙◌}
use mathlib.Core.List.{◌++◌}
use native.Mathlib.Omega.{arith}
use Rattle.table.specs.Words.{argument}
use Rattle.text.specs.Text.{bytes, set}
use Rattle.text.proofs.Adding.{added_then, added-as}
use Rattle.handler_lines.specs.Parts.{tail}
use Rattle.handler_lines.proofs.put_tail.Goals as goal

pub returns : goal.returns
unfolding tail
returns c =
    let l = c.add_number-line.ensures in let s = c.add_set-next.ensures in let e = c.put_room.ensures in
    let permissions = c.argument_of-permissions.ensures ∙ ap argument c.word_at.ensures in
    record {
      added = added_then (added_then l.added (added-as (ap (λ (x : ℕ). bytes " permissions " ++ set x) permissions) s.added)) e;
      upper_bound = omega (arith, l.upper_bound, s.upper_bound, e.ends);
    }
