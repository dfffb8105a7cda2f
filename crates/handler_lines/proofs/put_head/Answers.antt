-- `handler_lines::put_head` meets its contract. Assumes nothing.
use Prim.Native.Nat.{ℕ}
use mathlib.Core.Path.{ap, ◌∙◌}
use mathlib.Core.List.{◌++◌}
use native.Mathlib.Omega.{arith}
use Rattle.table.specs.Words.{argument}
use Rattle.text.specs.Text.{bytes, decimal}
use Rattle.text.proofs.Adding.{added_then, added-as}
use Rattle.handler_lines.specs.Parts.{head}
use Rattle.handler_lines.proofs.put_head.Goals as goal

pub returns : goal.returns
unfolding head
returns c =
    let a = c.add_number-next.ensures in let n = c.add_number.ensures in
    let name = c.argument_of-name.ensures ∙ ap argument c.word_at.ensures in
    record {
      added = added_then a.added (added-as (ap (λ (x : ℕ). bytes " name " ++ decimal x) name) n.added);
      upper_bound = omega (arith, a.upper_bound, n.upper_bound);
    }
